use Rattle.std.proofs.Common.{◌≡◌, ◌%◌, refl, sym, ap, subst, ◌∙◌}
use Rattle.clock_gate.specs.declared.act.Act.TheVariants.{Store}
use Rattle.vmclock_page.specs.Host.{Host, act_of}
use Rattle.segment_views.specs.Views.{SeatView}
use Rattle.segment_rule.specs.Hosts.{IsBetweenRows}
use Rattle.segment_rule.proofs.Hosting.{may_store, host_more, host_begins, may_row, host_ended}
use Rattle.segment_rule.proofs.host.do_row.Goals as goal

pub storing-init : goal.storing-init
storing-init c = record {
  table = refl;
  slots = c.requires.slots;
  may = may_row c.args.row.now c.args.seat.now.me.0 c.args.machine c.requires.between (ap (λ (h : Host). h.count % 2) (sym c.begin.ensures.value) ∙ c.begin.ensures.kept.even) c.requires.row c.requires.may;
  host = c.begin.ensures.kept;
  at = host_begins c.args.row.now c.args.seat.now.me.0 c.args.machine c.begin.new.self c.requires.between c.begin.ensures.value;
}

pub store-requires-clause-may : goal.store-requires-clause-may
store-requires-clause-may c =
    let was = c.storing.invariant in
    let act : act_of c.storing.machine ≡ Store c.from.result c.in-Store.value = sym c.in-Store.ensures.act ∙ ap (λ w. Store w c.in-Store.value) (sym c.from.ensures) in
    may_store c.args.row.now c.args.seat.now.me.0 c.storing.seat.me.0 c.storing.machine c.from.result c.in-Store.value was.may was.at act

pub storing-preserved : goal.storing-preserved
storing-preserved c =
    let was = c.storing.invariant in
    let act : act_of c.storing.machine ≡ Store c.from.result c.in-Store.value = sym c.in-Store.ensures.act ∙ ap (λ w. Store w c.in-Store.value) (sym c.from.ensures) in
    record {
      table = c.store.ensures.table ∙ was.table;
      slots = c.store.ensures.slots;
      may = was.may;
      host = c.give.ensures.kept;
      at = host_more c.args.row.now c.args.seat.now.me.0 c.storing.seat.me.0 c.store.new.seat.me.0 c.storing.machine c.give.new.self c.from.result c.in-Store.value was.may was.at act c.store.ensures.tells c.give.ensures.value;
    }

pub returns-clause-view : goal.returns-clause-view
returns-clause-view c =
    let was = c.storing.invariant in
    (host_ended c.args.row.now c.args.seat.now.me.0 c.storing.seat.me.0 c.storing.machine was.may was.at was.host (sym c.in-End.ensures.act)).0

pub returns-clause-between : goal.returns-clause-between
returns-clause-between c =
    let was = c.storing.invariant in
    let ended = host_ended c.args.row.now c.args.seat.now.me.0 c.storing.seat.me.0 c.storing.machine was.may was.at was.host (sym c.in-End.ensures.act) in
    subst (λ (v : SeatView). IsBetweenRows c.storing.machine v) (sym ended.0) ended.1
