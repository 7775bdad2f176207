-- The clients of answers are those of calls.
use Rattle.std.proofs.Common.{◌≡◌, ℕ, zero, suc, ◌+◌, ◌<◌, ◌==◌, Bool, true, false, if◌then◌else◌, cond, List, [], ◌∷◌, Option, Some, length, slice_get, refl, sym, ap, subst, ◌∙◌, arith}
use Rattle.std.specs.List.{AllByRecursion}
use Rattle.std.proofs.lemmas.Bool.Decides.{nat_tests}
use Rattle.std.proofs.lemmas.List.Elements.{recursion_from_All}
use Rattle.std.proofs.lemmas.List.FromFn.{length-range_with_len}
use Rattle.std.proofs.lemmas.List.Sums.{sum_by-cons}
use Rattle.clock_gate.specs.declared.trace.CallRow.{CallRow}
use Rattle.clock_gate.specs.declared.trace.Trace.{Trace}
use Rattle.clock_gate.specs.Trace.{IsCallRow, IsClient, IsLawfulTrace, calls_by}
use Rattle.interval_now.specs.declared.answers.Answer.{Answer}
use Rattle.abstract_run.specs.declared.event.Event.{Event}
use Rattle.abstract_run.specs.declared.event.Event.TheVariants as events
use Rattle.abstract_run.specs.declared.event.Trail.{Trail}
use Rattle.abstract_run.specs.RunWhole.{run_of}
use Rattle.run_theorem.specs.Calls.{AllCallsAnswered, calls_answered}

same_number : (m n : ℕ) → (m == n) ≡ true → m ≡ n
same_number m n is = grind (arith, nat_tests)

-- who has a call is a client
first_or : (client : ℕ) (row : CallRow) (rest : ℕ) → IsCallRow row → (0 < rest → IsClient client) → (test : Bool) → (row.client == client) ≡ test → 0 < cond {A = ℕ} test 1 0 + rest → IsClient client
first_or client row rest is later true same some = subst IsClient (same_number row.client client same) is.client
first_or client row rest is later false same some = later (omega (arith, some))

has_call : (client : ℕ) (calls : List CallRow) → AllByRecursion IsCallRow calls → 0 < calls_by client calls → IsClient client
unfolding calls_by
has_call client [] all some = absurd (omega (arith, some))
has_call client (row ∷ rest) all some =
    let one = λ (call : CallRow). cond {A = ℕ} (call.client == client) 1 0 in
    let more : 0 < cond {A = ℕ} (row.client == client) 1 0 + calls_by client rest = omega (arith, some, sum_by-cons one row rest) in
    first_or client row (calls_by client rest) all.0 (has_call client rest all.1) (row.client == client) refl more

-- an answer is counted among those of its client
by_client : (call : ℕ) (answered : List ℕ) (test : Bool) → 0 < length answered → 0 < length (if test then call ∷ answered else answered)
by_client call answered true some = omega arith
by_client call answered false some = some

itself : (n : ℕ) → (n == n) ≡ true
itself n = grind (arith, nat_tests)

-- so its client has one
has_answer : (client : ℕ) (run : List Event) (k call : ℕ) (answer : Answer) (trail : Option Trail) → slice_get run k ≡ Some (events.Answered client call answer trail)
    → 0 < length (calls_answered client run)
has_answer client [] k call answer trail at = absurd (cc at)
has_answer client (event ∷ run) zero call answer trail at =
    let same : event ≡ events.Answered client call answer trail = cc at in
    subst (λ (e : Event). 0 < length (calls_answered client (e ∷ run))) (sym same) (first (client == client) (itself client))
  where
    first : (test : Bool) → test ≡ true → 0 < length (if test then call ∷ calls_answered client run else calls_answered client run)
    first true is = omega arith
    first false is = absurd (cc is)
has_answer client (events.Opened poll found ∷ run) (suc k) call answer trail at = has_answer client run k call answer trail at
has_answer client (events.Moved poll position generation ∷ run) (suc k) call answer trail at = has_answer client run k call answer trail at
has_answer client (events.Published position publication marked_at replied_at ∷ run) (suc k) call answer trail at = has_answer client run k call answer trail at
has_answer client (events.Skipped poll before last ∷ run) (suc k) call answer trail at = has_answer client run k call answer trail at
has_answer client (events.Stopped poll stores ∷ run) (suc k) call answer trail at = has_answer client run k call answer trail at
has_answer client (events.Answered which number other way ∷ run) (suc k) call answer trail at =
    by_client number (calls_answered client run) (which == client) (has_answer client run k call answer trail at)

-- each answer of a whole run is a client's
pub is_client : AllCallsAnswered → (trace : Trace) → IsLawfulTrace trace → (client k call : ℕ) (answer : Answer) (trail : Option Trail)
    → slice_get (run_of trace).events k ≡ Some (events.Answered client call answer trail) → IsClient client
is_client all trace lawful client k call answer trail at =
    let some : 0 < length (calls_answered client (run_of trace).events) = has_answer client (run_of trace).events k call answer trail at in
    let as_many : length (calls_answered client (run_of trace).events) ≡ calls_by client trace.calls =
    ap length (all trace client lawful) ∙ length-range_with_len 1 (calls_by client trace.calls) in
    has_call client trace.calls (recursion_from_All IsCallRow trace.calls lawful.calls) (omega (arith, some, as_many))
