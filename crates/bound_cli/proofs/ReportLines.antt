-- The lines and the counts of events, event by event.
use Rattle.std.proofs.Common.{◌≡◌, ◌+◌, ◌<◌, ◌≤◌, ◌++◌, ℕ, List, [], drop, get_or, length, refl, ap, ◌∙◌, arith}
use Rattle.std.specs.List.{flat_map}
use Rattle.std.proofs.lemmas.List.{drop_more}
use Rattle.std.proofs.lemmas.List.Concat.{flat_map-cons}
use Rattle.abstract_run.specs.declared.event.Event.{Event}
use Rattle.bound_cli.specs.declared.times.Times.{Times}
use Rattle.bound_cli.specs.declared.totals.Totals.{Totals}
use Rattle.bound_cli.specs.Civil.{line_with}
use Rattle.bound_cli.specs.Replay.{AreUpTo, printed_of, lines_of, counted, counted_all}

-- the lines from a place on begin with that of the event there
pub lines_of-more : (times : Times) (start : ℕ) (events : List Event) (place : ℕ) (d : Event) → place < length events
    → lines_of times start (drop place events) ≡ line_with times (printed_of start (get_or events place d)) ++ lines_of times start (drop (place + 1) events)
unfolding lines_of
lines_of-more times start events place d before =
    ap (λ (rest : List Event). flat_map (λ (event : Event). line_with times (printed_of start event)) rest) (drop_more events place d before)
    ∙ flat_map-cons (λ (event : Event). line_with times (printed_of start event)) (get_or events place d) (drop (place + 1) events)

pub lines_of-none : (times : Times) (start : ℕ) → lines_of times start [] ≡ []
unfolding lines_of
lines_of-none times start = refl

-- the counts from a place on begin with the event there
pub counted_all-more : (t : Totals) (events : List Event) (place : ℕ) (d : Event) → place < length events
    → counted_all t (drop place events) ≡ counted_all (counted t (get_or events place d)) (drop (place + 1) events)
unfolding counted_all
counted_all-more t events place d before = ap (λ (rest : List Event). counted_all t rest) (drop_more events place d before)

pub counted_all-none : (t : Totals) → counted_all t [] ≡ t
unfolding counted_all
counted_all-none t = refl

-- counts up to a number are up to a greater one
pub up_to_more : (least most : ℕ) (t : Totals) → least ≤ most → AreUpTo least t → AreUpTo most t
up_to_more least most t le are =
    let p = are.publications in let a = are.answers in let i = are.times in let u = are.unknown in
    let s = are.synchronized in let f = are.free_running in let d = are.disrupted in
    record {
      publications = omega (arith, le, p);
      answers = omega (arith, le, a);
      times = omega (arith, le, i);
      unknown = omega (arith, le, u);
      synchronized = omega (arith, le, s);
      free_running = omega (arith, le, f);
      disrupted = omega (arith, le, d);
    }
