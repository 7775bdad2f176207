use Rattle.writer_reopen.proofs.Openings.{nothing_loaded}
use Rattle.std.proofs.Common.{arith}
use Rattle.writer_reopen.proofs.opener.Opener.new.Goals as goal

pub invariant_of-result : goal.invariant_of-result
invariant_of-result c = (omega arith, nothing_loaded c.args.layout)
