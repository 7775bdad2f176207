use Rattle.std.proofs.Common.{◌≡◌, ◌≤◌, ℕ, List, [], ◌∷◌, Option, refl, ◌∙◌, arith}
use Rattle.std.proofs.lemmas.List.Elements.{All-cons, All-nil}
use Rattle.generation_word.specs.declared.layout.Layout.TheVariants.{Two}
use Rattle.clock_gate.specs.Trace.{IsClockRow, IsPollRow, IsCallRow, IsTurn, IsLawfulTrace, NeverFalls, clock_numbers, turns_of, largest_from, times, jobs_of, calls_by}
use Rattle.clock_gate.specs.declared.clock_row.ClockRow.{ClockRow}
use Rattle.clock_gate.specs.declared.trace.CallRow.{CallRow}
use Rattle.clock_gate.specs.declared.trace.HostRow.{HostRow}
use Rattle.clock_gate.specs.declared.trace.HostRow.TheVariants.{Clock, Page, Disrupt}
use Rattle.clock_gate.specs.declared.trace.Party.{Party}
use Rattle.clock_gate.specs.declared.trace.Party.TheVariants.{Host, Daemon, Client}
use Rattle.clock_gate.specs.declared.trace.PollRow.{PollRow}
use Rattle.clock_gate.specs.declared.trace.Trace.{Trace}
use Rattle.clock_gate.specs.declared.trace.Turn.{Turn}
use Rattle.promise_judge.proofs.tests.lawful_trace.Goals as goal

hosts : (w v : List ℕ) → List HostRow
hosts w v = Clock 1 ∷ Disrupt ∷ Clock 2 ∷ Page w ∷ Page v ∷ Clock 3 ∷ []

five : List Party
five = Host ∷ Host ∷ Host ∷ Host ∷ Host ∷ []

made : (image : List ℕ) (page : Option (List ℕ)) (clock : List ClockRow) (host : List HostRow) (polls : List PollRow) (calls : List CallRow) (turns : List Turn) (order : List Party) → Trace
made image page clock host polls calls turns order =
    record { drift = 50000; tries = 10; clients = 1; layout = Two; image = image; page = page; clock = clock; host = host; polls = polls; calls = calls; turns = turns; order = order }

falls : (a b d : ClockRow) → a.mono ≤ b.mono → a.mono ≤ d.mono → b.mono ≤ d.mono → NeverFalls (a ∷ b ∷ d ∷ [])
unfolding NeverFalls
falls a b d ab ad bd = (
  All-cons (λ (later : ClockRow). a.mono ≤ later.mono) b (d ∷ []) ab (All-cons (λ (later : ClockRow). a.mono ≤ later.mono) d [] ad (All-nil (λ (later : ClockRow). a.mono ≤ later.mono))),
  (
    All-cons (λ (later : ClockRow). b.mono ≤ later.mono) d [] bd (All-nil (λ (later : ClockRow). b.mono ≤ later.mono)),
    (All-nil (λ (later : ClockRow). d.mono ≤ later.mono), tt),
  ),
)

orders : (w v : List ℕ) (party : Party) → times party five ≡ jobs_of (hosts w v) [] [] party
unfolding times calls_by hosts five
orders w v Host = refl
orders w v Daemon = refl
orders w v (Client client) = refl

lawful : (image : List ℕ) (page : Option (List ℕ)) (a b d : ClockRow) (w v : List ℕ) → IsClockRow a → IsClockRow b → IsClockRow d →
    a.mono ≤ b.mono → a.mono ≤ d.mono → b.mono ≤ d.mono → IsLawfulTrace (made image page (a ∷ b ∷ d ∷ []) (hosts w v) [] [] [] five)
unfolding made hosts clock_numbers turns_of largest_from
lawful image page a b d w v at_a at_b at_d ab ad bd = record {
  drift = omega arith;
  tries = (omega arith, omega arith);
  clients = refl;
  clock = All-cons IsClockRow a (b ∷ d ∷ []) at_a (All-cons IsClockRow b (d ∷ []) at_b (All-cons IsClockRow d [] at_d (All-nil IsClockRow)));
  rises = falls a b d ab ad bd;
  host = record { begins = refl; numbered = refl };
  host_few = omega arith;
  polls = All-nil IsPollRow;
  polls_few = omega arith;
  calls = All-nil IsCallRow;
  calls_few = omega arith;
  turns = All-nil IsTurn;
  turns_few = omega arith;
  turns_most = omega arith;
  order = orders w v;
}

pub returns-clause-lawful : goal.returns-clause-lawful
unfolding made hosts five
returns-clause-lawful c =
    let first = c.told.ensures.mono in
    let second = c.told-2.ensures.mono in
    let third = c.untold.ensures.mono in
    rw (
      c.from_vec.ensures ∙ c.in_ok-clock.ensures.items,
      c.from_vec-2.ensures ∙ c.in_ok-host.ensures.items,
      c.from_vec-3.ensures ∙ c.new.ensures.items,
      c.from_vec-4.ensures ∙ c.new-2.ensures.items,
      c.from_vec-5.ensures ∙ c.new-3.ensures.items,
      c.from_vec-6.ensures ∙ c.in_ok-order.ensures.items,
    )
    (lawful _ _ c.told.result c.told-2.result c.untold.result c.page.result c.page-2.result (c.told.ensures.moments (omega arith)) (c.told-2.ensures.moments (omega arith))
    (c.untold.ensures.moments (omega arith)) (omega arith) (omega arith) (omega arith))
