use Rattle.std.proofs.Common.{arith, ap, length, length-drop}
use Rattle.bound_cli.proofs.Appended.{appended_more}
use Rattle.bound_cli.proofs.stream.write_all.Goals as goal

pub writing-preserved : goal.writing-preserved
writing-preserved g c = (
  omega (arith, c.in_ok-at.ensures.within, ap length c.split_at.ensures.back, length-drop c.writing.at c.args.text.now),
  omega (arith, c.writing.invariant.1, c.in_ok-at.ensures.cause.later),
  appended_more _ _ _ c.args.text.now c.writing.at c.in_ok-at.field-0 c.writing.invariant.2 (rw c.split_at.ensures.back at c.in_ok-at.ensures.given),
)
