use Rattle.std.proofs.Common.{sym, length}
use Rattle.promise_judge.proofs.ByTables.{excused_at}
use Rattle.promise_judge.proofs.drift.is_excused.Goals as goal

pub returns : goal.returns
returns c =
    rw (c.entry-next.ensures.value, c.entry.ensures.value, c.larger-after.ensures, c.entry-first.ensures.value, c.from.ensures)
    (sym (excused_at c.args.trace.now.host c.args.positions.now.items c.args.disrupt.now.items (length c.args.trace.now.clock) c.args.i c.args.n
    c.requires.positions c.requires.disrupt c.requires.low c.requires.high c.requires.load c.requires.before c.requires.here))
