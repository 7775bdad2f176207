use Rattle.std.proofs.Common.{◌≡◌}
use Rattle.live_run.proofs.feeding.take_next.Given as goal

abbrev pub invariant-taking : goal.invariant-taking
invariant-taking g l = l.output ≡ l.fn.output
