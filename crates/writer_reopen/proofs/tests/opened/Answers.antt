use Rattle.std.proofs.Common.{sym, subst, ◌∙◌}
use Rattle.writer_reopen.proofs.Images.{Opens, opens-load, opens-store}
use Rattle.writer_reopen.proofs.tests.opened.Goals as goal
use Rattle.writer_reopen.proofs.tests.opened.Goals.{in-Load, in-Store, in-End}

pub give-requires-clause-admitted : goal.give-requires-clause-admitted
give-requires-clause-admitted c =
    (opens-load c.args.layout c.copy_from_slice.new.self c.steps.opener c.next.result c.in-Load.word c.from.result c.steps.invariant c.next.ensures.act c.in-Load.is c.from.ensures).0

pub give-requires-in-Store-clause-admitted : goal.give-requires-in-Store-clause-admitted
give-requires-in-Store-clause-admitted c =
    (opens-store c.args.layout c.copy_from_slice.new.self c.steps.opener c.next.result c.in-Store.word c.in-Store.value 0 c.steps.invariant c.next.ensures.act c.in-Store.is).0

pub steps-preserved : goal.steps-preserved
steps-preserved c = elim c.match-next.branch [
  | in-Load w ↦
      subst (Opens c.args.layout c.copy_from_slice.new.self) (sym (w.opener-is ∙ w.give.ensures.given))
      (opens-load c.args.layout c.copy_from_slice.new.self c.steps.opener c.next.result w.in-Load.word w.from.result c.steps.invariant c.next.ensures.act w.in-Load.is w.from.ensures).1
  | in-Store w ↦
      subst (Opens c.args.layout c.copy_from_slice.new.self) (sym (w.opener-is ∙ w.give-in-Store.ensures.given))
      (opens-store c.args.layout c.copy_from_slice.new.self c.steps.opener c.next.result w.in-Store.word w.in-Store.value 0 c.steps.invariant c.next.ensures.act w.in-Store.is).1
  | in-End w ↦ subst (Opens c.args.layout c.copy_from_slice.new.self) (sym w.opener-is) c.steps.invariant
]
