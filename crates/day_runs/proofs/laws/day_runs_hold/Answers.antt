use Rattle.day_runs.proofs.DayAnswers.{answers_are, runs_hold, whole_hold}
use Rattle.day_runs.proofs.laws.day_runs_hold.Goals as goal

pub returns : goal.returns
returns c = record { claims = answers_are; held = runs_hold; whole = whole_hold }
