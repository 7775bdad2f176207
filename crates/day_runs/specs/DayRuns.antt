-- Every run of a generated day keeps its promises.
use Rattle.std.specs.Prelude.{◌≡◌, ℕ, ◌≤◌, List, reverse}
use Rattle.drill_day.specs.Day.{day_of}
use Rattle.abstract_run.specs.RunWhole.{run_of}
use Rattle.abstract_run.specs.declared.event.Event.{Event}
use Rattle.run_promises.specs.Judged.{EachTrusted, claim_of, premises_of}
use Rattle.run_promises.specs.Runs.{IsRunOf}
use Rattle.run_promises.specs.declared.premises.Premises.TheVariants.{Held}
use Rattle.day_runs.specs.Kept.{IsOfDay}

-- the claim of each answer that is looked at is one of the day
abbrev pub AnswersAreOfDay : Type 0
AnswersAreOfDay =
    (seed polls : ℕ) → 6 ≤ polls → polls ≤ 20000 → (events : List Event) → IsRunOf (day_of seed polls) events
    → EachTrusted (λ past time trail. IsOfDay polls (claim_of past time trail)) (reverse events)

-- so each of them passes all tests
abbrev pub DayRunsHold : Type 0
DayRunsHold =
    (seed polls : ℕ) → 6 ≤ polls → polls ≤ 20000 → (events : List Event) → IsRunOf (day_of seed polls) events
    → premises_of (day_of seed polls) events ≡ Held

-- so it is of the run of the day's own schedule
abbrev pub WholeDaysHold : Type 0
WholeDaysHold = (seed polls : ℕ) → 6 ≤ polls → polls ≤ 20000 → premises_of (day_of seed polls) (run_of (day_of seed polls)).events ≡ Held
