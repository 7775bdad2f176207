use Rattle.std.proofs.Common.{◌+◌, length, ap, ◌∙◌, arith}
use Rattle.promise_judge.specs.Offsets.{is_untold}
use Rattle.promise_judge.proofs.nexts.untold_table.Goals as goal

pub rows-preserved : goal.rows-preserved
rows-preserved c =
    let more = c.rows-test.true in
    let most = c.rows.invariant.most in
    record {
      least = omega arith;
      most = omega arith;
      next = c.put_next.ensures (is_untold c.args.clock.now) c.rows.n (length c.args.clock.now + 1) (omega arith) c.rows.invariant.next
          (c.is_untold.ensures ∙ ap (is_untold c.args.clock.now) c.from.ensures);
    }
