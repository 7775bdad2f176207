-- Worked rows: the premises of some events, by computing.
use Rattle.std.proofs.Common.{◌≡◌, ℕ, List, [], ◌∷◌, Some, None, replicate, refl, true}
use Rattle.std.specs.Prelude.{pos}
use Rattle.generation_word.specs.declared.layout.Layout.TheVariants.{Two}
use Rattle.clock_gate.specs.declared.clock_status.ClockStatus.{ClockStatus}
use Rattle.clock_gate.specs.declared.clock_status.ClockStatus.TheVariants.{Unknown, Synchronized, FreeRunning, Disrupted}
use Rattle.clock_gate.specs.declared.clock_row.ClockRow.{ClockRow}
use Rattle.clock_gate.specs.declared.trace.HostRow.{HostRow}
use Rattle.clock_gate.specs.declared.trace.HostRow.TheVariants.{Clock, Page, Disrupt}
use Rattle.clock_gate.specs.declared.trace.Trace.{Trace}
use Rattle.segment_layout.specs.declared.publication.Publication.{Publication}
use Rattle.segment_layout.specs.declared.start.Start.TheVariants.{Fresh}
use Rattle.interval_now.specs.declared.answers.Answer.TheVariants.{Time, NotInitialized}
use Rattle.abstract_run.specs.declared.event.Event.{Event}
use Rattle.abstract_run.specs.declared.event.Event.TheVariants.{Opened, Published, Answered}
use Rattle.promise_judge.specs.declared.fault.Why.TheVariants.{Wrap, Image, Drift, Mark}
use Rattle.promise_judge.specs.Promises.{broken_promise_of}
use Rattle.run_promises.specs.declared.premises.Premises.TheVariants.{Held, Failed}
use Rattle.run_promises.specs.Judged.{premises_of}

page_with : ℕ → List ℕ
page_with marker = 0 ∷ 0 ∷ marker ∷ replicate 10 0

-- a clock that is right at the first row and 5 ms late at the second
late : List ClockRow
late =
    record { mono = 1000000000; real = 1700000000000000000; truth = Some 1700000000000000000 }
    ∷ record { mono = 2000000000; real = 1700000001000000000; truth = Some 1700000001005000000 }
    ∷ []

rows : List HostRow → Trace
rows host = record {
  drift = 50000;
  tries = 10;
  clients = 1;
  layout = Two;
  image = replicate 10 0;
  page = Some (page_with 7);
  clock = late;
  host = host;
  polls = [];
  calls = [];
  turns = [];
  order = [];
}

-- the first poll's publication, with this marker, loaded at this host position
first_publication : (marker : ℕ) → Publication
first_publication marker = record {
  poll = 1;
  generation = 2;
  asked = 1;
  sequence = 0;
  replied = 1;
  base = 1;
  rec = record { as_of = pos 1000000000; void_after = pos 1001000000000; bound = pos 244142; marker = marker; drift = 50000; status = Synchronized; support = true };
}

published : (marker marked_at : ℕ) → Event
published marker marked_at = Published 1 (first_publication marker) marked_at marked_at

-- the answer of a client's call at the second clock row, of this status
answered : (client call : ℕ) → ClockStatus → (position inside clock_at mark_at : ℕ) → Event
answered client call status position inside clock_at mark_at =
    Answered client call
    (Time (record { generation = 2; row = 2; sequence = 0; interval = record { earliest = pos 1699999999999705858; latest = pos 1700000001000294142; status = status } }))
    (Some (record { position = position; inside = inside; clock_at = clock_at; mark_at = mark_at }))

-- a disruption before the base poll's marker load excuses nothing
disrupted_before :
    premises_of (rows (Clock 1 ∷ Disrupt ∷ Page (page_with 8) ∷ Clock 2 ∷ []))
    (Opened 1 Fresh ∷ published 8 3 ∷ answered 1 1 Synchronized 1 0 4 4 ∷ []) ≡ Failed 1 1 Drift 2
unfolding broken_promise_of rows page_with late first_publication published answered
disrupted_before = refl

-- one after it, which a page row tells after the client's marker load only; and before it
told_too_late :
    premises_of (rows (Clock 1 ∷ Disrupt ∷ Clock 2 ∷ Page (page_with 8) ∷ []))
    (Opened 1 Fresh ∷ published 7 1 ∷ answered 1 1 Synchronized 1 0 3 3 ∷ []) ≡ Failed 1 1 Mark 2
unfolding broken_promise_of rows page_with late first_publication published answered
told_too_late = refl

-- an answer that claims nothing isn't looked at
claims_nothing :
    premises_of (rows (Clock 1 ∷ Disrupt ∷ Clock 2 ∷ Page (page_with 8) ∷ []))
    (Opened 1 Fresh ∷ published 7 1 ∷ answered 1 1 Disrupted 1 0 3 4 ∷ answered 1 2 Unknown 1 0 3 3 ∷ Answered 2 1 NotInitialized None ∷ []) ≡ Held
unfolding broken_promise_of rows page_with late first_publication published answered
claims_nothing = refl

-- no publication before it made its position: the image's record
of_the_image :
    premises_of (rows (Clock 1 ∷ Clock 2 ∷ [])) (Opened 1 Fresh ∷ answered 3 1 FreeRunning 1 0 2 2 ∷ published 7 2 ∷ []) ≡ Failed 3 1 Image 0
unfolding broken_promise_of rows page_with late first_publication published answered
of_the_image = refl

-- a wrapped read comes before that
wrapped_first :
    premises_of (rows (Clock 1 ∷ Clock 2 ∷ [])) (Opened 1 Fresh ∷ answered 3 1 FreeRunning 1 32767 2 2 ∷ []) ≡ Failed 3 1 Wrap 32767
unfolding broken_promise_of rows page_with late first_publication published answered
wrapped_first = refl

-- the first in the order of the events
first_of_two :
    premises_of (rows (Clock 1 ∷ Disrupt ∷ Clock 2 ∷ Page (page_with 8) ∷ []))
    (Opened 1 Fresh ∷ published 7 1 ∷ answered 2 1 FreeRunning 1 0 3 3 ∷ answered 1 1 Synchronized 5 0 3 3 ∷ []) ≡ Failed 2 1 Mark 2
unfolding broken_promise_of rows page_with late first_publication published answered
first_of_two = refl
