use Rattle.std.proofs.Common.{◌+◌, length, ap, ◌∙◌, arith}
use Rattle.promise_judge.specs.Positions.{is_disrupt_at}
use Rattle.promise_judge.proofs.nexts.disrupt_table.Goals as goal

pub rows-preserved : goal.rows-preserved
rows-preserved c =
    let more = c.rows-test.true in
    let most = c.rows.invariant.most in
    record {
      least = omega arith;
      most = omega arith;
      next = c.put_next.ensures (is_disrupt_at c.args.host.now) c.rows.n (length c.args.host.now + 1) (omega arith) c.rows.invariant.next
          (c.is_disrupt_at.ensures ∙ ap (is_disrupt_at c.args.host.now) c.from.ensures);
    }
