use Rattle.writer_reopen.proofs.Images.{Opens}
use Rattle.writer_reopen.proofs.tests.opened.Given as goal

abbrev pub invariant-steps : goal.invariant-steps
invariant-steps l = Opens l.fn.layout l.image l.opener
