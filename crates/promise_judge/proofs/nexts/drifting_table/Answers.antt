use Rattle.std.proofs.Common.{◌+◌, ℕ, length, ap, ◌∙◌, subst, arith}
use Rattle.promise_judge.specs.Disruptions.{is_drifting}
use Rattle.promise_judge.specs.Searching.{AreNext}
use Rattle.promise_judge.proofs.nexts.drifting_table.Goals as goal

pub rows-init : goal.rows-init
rows-init c =
    let is = c.len.ensures in
    record {
      most = omega (arith, is);
      next = subst (λ (k : ℕ). AreNext (is_drifting c.args.trace.now.drift c.args.trace.now.clock c.args.trace.now.host 0) (c.len.result + 1) (k + 1) c.in_ok-table.table.items) c.len.ensures
          (c.in_ok-table.ensures (is_drifting c.args.trace.now.drift c.args.trace.now.clock c.args.trace.now.host 0));
    }

pub rows-preserved : goal.rows-preserved
rows-preserved c =
    let more = c.rows-test.true in
    let most = c.rows.invariant.most in
    record {
      most = omega arith;
      next = c.put_next.ensures (is_drifting c.args.trace.now.drift c.args.trace.now.clock c.args.trace.now.host 0) c.rows.n (length c.args.trace.now.clock + 1) (omega arith) c.rows.invariant.next
          (c.drifts.ensures ∙ ap (is_drifting c.args.trace.now.drift c.args.trace.now.clock c.args.trace.now.host 0) c.from.ensures);
    }
