use Rattle.std.proofs.Common.{rules, true, sym, ap, ◌∙◌}
use Rattle.segment_rule.proofs.Allowed.{load_allowed}
use Rattle.segment_rule.proofs.Opening.{part_loads}
use Rattle.segment_rule.proofs.Stepping.{loads_told}
use Rattle.segment_rule.proofs.daemon.DaemonSeat.first.Goals as goal

pub load-requires : goal.load-requires
load-requires c = let inv = c.self.invariant in (search rules, search rules, load_allowed c.table.inside.table.shared.key true c.args.word _ _ _ inv.2 (search rules))

pub invariant_of-self : goal.invariant_of-self
invariant_of-self c =
    let inv = c.self.invariant in
    let told = c.load.ensures.2 in
    let l = loads_told true c.args.word c.load.result c.self.inside.seat.me.0 _ told.1 in (
      told.0 ∙ inv.0,
      l.is_daemon ∙ inv.1,
      l.seated ∙ inv.2,
      inv.3 ∙ ap (λ x. x.layout) (sym l.setup),
      part_loads true c.args.word c.load.result c.self.inside.seat.me.0 _ told.1 inv.4,
      λ on. absurd (cc (sym on ∙ (ap (λ x. x.is_open) c.self.view_is ∙ c.requires.shut))),
    )
