use Rattle.std.proofs.Common.{◌≡◌}
use Rattle.promise_judge.specs.Shown.{ShowsRows}
use Rattle.run_promises.specs.Judged.{premises_by}
use Rattle.run_verdict.specs.Past.{past_of}
use Rattle.run_verdict.specs.Tables.{ShowsPast}
use Rattle.run_verdict.proofs.judging.judged_all.Given as goal

abbrev pub invariant-events : goal.invariant-events
invariant-events l =
    (l.found ≡ premises_by l.trace (past_of l.events l.place)) × ShowsPast l.events l.place l.known.past × ShowsRows l.trace l.known.tables
