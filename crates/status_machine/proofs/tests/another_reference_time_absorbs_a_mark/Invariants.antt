use Rattle.std.proofs.Common.{◌≡◌, true}
use Rattle.std.specs.Prelude.{IfSome}
use Rattle.status_machine.specs.Poll.{BaseFits}
use Rattle.status_machine.proofs.tests.another_reference_time_absorbs_a_mark.Given as goal

abbrev pub invariant-polls : goal.invariant-polls
invariant-polls g l = (l.daemon.support ≡ true) × (l.daemon.drift ≡ 50000) × IfSome l.daemon.base BaseFits
