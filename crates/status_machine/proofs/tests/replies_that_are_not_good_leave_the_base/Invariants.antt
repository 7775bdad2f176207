use Rattle.std.proofs.Common.{◌≡◌, false}
use Rattle.std.specs.Prelude.{IfSome}
use Rattle.status_machine.specs.Poll.{BaseFits}
use Rattle.status_machine.proofs.tests.replies_that_are_not_good_leave_the_base.Given as goal

abbrev pub invariant-polls : goal.invariant-polls
invariant-polls g l = (l.daemon.support ≡ false) × (l.daemon.drift ≡ 50000) × IfSome l.daemon.base BaseFits
