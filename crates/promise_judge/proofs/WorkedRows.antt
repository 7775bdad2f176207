-- Worked rows of the seven tests, by computing.
use Rattle.std.proofs.Common.{◌≡◌, ℕ, List, [], ◌∷◌, Option, Some, None, replicate, refl}
use Rattle.generation_word.specs.declared.layout.Layout.TheVariants.{Two}
use Rattle.clock_gate.specs.declared.clock_row.ClockRow.{ClockRow}
use Rattle.clock_gate.specs.declared.trace.HostRow.{HostRow}
use Rattle.clock_gate.specs.declared.trace.HostRow.TheVariants.{Clock, Page, Disrupt}
use Rattle.clock_gate.specs.declared.trace.Trace.{Trace}
use Rattle.promise_judge.specs.declared.claim.Claim.{Claim}
use Rattle.promise_judge.specs.declared.fault.Why.TheVariants.{Wrap, Image, Untold, Bound, Drift, Mark, Repeat}
use Rattle.promise_judge.specs.Promises.{broken_promise_of}

rows : Option (List ℕ) → List ClockRow → List HostRow → Trace
rows page clock host = record {
  drift = 50000;
  tries = 10;
  clients = 1;
  layout = Two;
  image = replicate 10 0;
  page = page;
  clock = clock;
  host = host;
  polls = [];
  calls = [];
  turns = [];
  order = [];
}

page_with : ℕ → List ℕ
page_with marker = 0 ∷ 0 ∷ marker ∷ replicate 10 0

told : ℕ → ℕ → ℕ → ClockRow
told mono real truth = record { mono = mono; real = real; truth = Some truth }

untold : ℕ → ℕ → ClockRow
untold mono real = record { mono = mono; real = real; truth = None }

-- a clock that stands at two seconds; and a clock that is right at the first and 5 ms late at the second
silent : List ClockRow
silent = untold 1000000000 1700000000000000000 ∷ untold 2000000000 1700000001000000000 ∷ []

late : List ClockRow
late = told 1000000000 1700000000000000000 1700000000000000000 ∷ told 2000000000 1700000001000000000 1700000001005000000 ∷ []

-- a claim of the first poll, at clock row 1, by a client at clock row 2
claim_at : (marked_at mark_at : ℕ) → Claim
claim_at marked_at mark_at = record { inside = 0; base = 1; bound = 244142; second = 1; marked_at = marked_at; row = 2; mark_at = mark_at }

-- the record of an image has no base poll
of_an_image :
    broken_promise_of (rows None (untold 2000000000 1700000001000000000 ∷ []) (Clock 1 ∷ []))
    (record { inside = 0; base = 0; bound = 244142; second = 0; marked_at = 0; row = 1; mark_at = 1 })
    ≡ Some (record { why = Image; at = 0 })
unfolding broken_promise_of rows untold
of_an_image = refl

-- a clock row that tells no truth
without_truth :
    broken_promise_of (rows None (untold 2000000000 1700000001000000000 ∷ []) (Clock 1 ∷ []))
    (record { inside = 0; base = 1; bound = 244142; second = 1; marked_at = 1; row = 1; mark_at = 1 })
    ≡ Some (record { why = Untold; at = 1 })
unfolding broken_promise_of rows untold
without_truth = refl

-- exactly a period of publications inside the read; and one fewer, where the second clock row tells no truth
a_period_inside :
    broken_promise_of (rows None silent (Clock 1 ∷ Clock 2 ∷ []))
    (record { inside = 32767; base = 32768; bound = 0; second = 2; marked_at = 2; row = 2; mark_at = 2 })
    ≡ Some (record { why = Wrap; at = 32767 })
unfolding broken_promise_of rows untold silent
a_period_inside = refl

one_fewer_inside :
    broken_promise_of (rows None silent (Clock 1 ∷ Clock 2 ∷ []))
    (record { inside = 32766; base = 32767; bound = 0; second = 2; marked_at = 2; row = 2; mark_at = 2 })
    ≡ Some (record { why = Untold; at = 2 })
unfolding broken_promise_of rows untold silent
one_fewer_inside = refl

-- a disruption that is told after the client's marker load only; and before it
told_too_late : broken_promise_of (rows (Some (page_with 7)) late (Clock 1 ∷ Disrupt ∷ Clock 2 ∷ Page (page_with 8) ∷ [])) (claim_at 1 3) ≡ Some (record { why = Mark; at = 2 })
unfolding broken_promise_of rows page_with told late claim_at
told_too_late = refl

told_in_time : broken_promise_of (rows (Some (page_with 7)) late (Clock 1 ∷ Disrupt ∷ Clock 2 ∷ Page (page_with 8) ∷ [])) (claim_at 1 4) ≡ None
unfolding broken_promise_of rows page_with told late claim_at
told_in_time = refl

-- a disruption before the base poll's marker load excuses nothing
disrupted_before : broken_promise_of (rows (Some (page_with 7)) late (Clock 1 ∷ Disrupt ∷ Page (page_with 8) ∷ Clock 2 ∷ [])) (claim_at 3 4) ≡ Some (record { why = Drift; at = 2 })
unfolding broken_promise_of rows page_with told late claim_at
disrupted_before = refl

-- the start page's marker counts as an earlier one
start_counts :
    broken_promise_of (rows (Some (page_with 7)) late (Clock 1 ∷ Page (page_with 8) ∷ Disrupt ∷ Page (page_with 7) ∷ Clock 2 ∷ [])) (claim_at 1 5) ≡ Some (record { why = Repeat; at = 4 })
unfolding broken_promise_of rows page_with told late claim_at
start_counts = refl

-- a page row with its predecessor's marker tells no disruption, and repeats none
same_marker_tells_nothing :
    broken_promise_of (rows (Some (page_with 7)) late (Clock 1 ∷ Disrupt ∷ Page (page_with 7) ∷ Clock 2 ∷ [])) (claim_at 1 4) ≡ Some (record { why = Mark; at = 2 })
unfolding broken_promise_of rows page_with told late claim_at
same_marker_tells_nothing = refl

-- the offset at the base poll's second clock row is past the bound by a nanosecond; and at the bound
past_the_bound :
    broken_promise_of (rows None (told 1000000000 1700000000000000000 1700000000000244143 ∷ []) (Clock 1 ∷ []))
    (record { inside = 0; base = 1; bound = 244142; second = 1; marked_at = 1; row = 1; mark_at = 1 })
    ≡ Some (record { why = Bound; at = 1 })
unfolding broken_promise_of rows told
past_the_bound = refl

at_the_bound :
    broken_promise_of (rows None (told 1000000000 1700000000000244142 1700000000000000000 ∷ []) (Clock 1 ∷ []))
    (record { inside = 0; base = 1; bound = 244142; second = 1; marked_at = 1; row = 1; mark_at = 1 })
    ≡ None
unfolding broken_promise_of rows told
at_the_bound = refl
