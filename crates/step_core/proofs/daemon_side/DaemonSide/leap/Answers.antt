use Rattle.std.proofs.Common.{refl}
use Rattle.step_core.proofs.DaemonLeaps.{hand_stays}
use Rattle.step_core.proofs.daemon_side.DaemonSide.leap.Goals as goal

pub returns-then-most-lt9-clause-leaps : goal.returns-then-most-lt9-clause-leaps
returns-then-most-lt9-clause-leaps c = (refl, hand_stays c.args.self.now.hand c.args.words.now)
