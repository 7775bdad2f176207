use Rattle.std.proofs.Common.{rules, sym, ap, ◌∙◌}
use Rattle.segment_rule.proofs.Allowed.{open_allowed}
use Rattle.segment_rule.proofs.Opening.{open_stores, part_stored}
use Rattle.segment_rule.proofs.daemon.DaemonSeat.open_store.Goals as goal

pub store-requires : goal.store-requires
store-requires c = let inv = c.self.invariant in (search rules, search rules, open_allowed c.table.inside.table.shared.key c.args.word c.args.value _ _ _ inv.1 (search rules))

pub invariant_of-self : goal.invariant_of-self
invariant_of-self c =
    let inv = c.self.invariant in
    let told = c.store.ensures.2 in
    let s = open_stores c.args.word c.args.value c.self.inside.seat.me.0 _ c.requires.word told.1 in (
      told.0 ∙ inv.0,
      s.is_daemon ∙ inv.1,
      s.seated ∙ inv.2,
      inv.3 ∙ ap (λ x. x.layout) (sym s.setup),
      part_stored c.args.word c.args.value c.self.inside.seat.me.0 _ (search rules) s inv.4,
      λ on. absurd (cc (sym on ∙ (ap (λ x. x.is_open) c.self.view_is ∙ c.requires.shut))),
    )
