use Rattle.std.proofs.Common.{rules, ◌≡◌, sym, ap, subst, ◌∙◌}
use Rattle.clock_gate.specs.declared.act.Act.TheVariants.{Load, Store}
use Rattle.writer_reopen.specs.Opening.{opening_act}
use Rattle.segment_rule.specs.Opens.{IsDaemonPart}
use Rattle.segment_rule.proofs.Opening.{first_given, under_load, store_now, under_store, reopened}
use Rattle.segment_rule.proofs.daemon.DaemonSeat.run_opener.Goals as goal

pub give-requires-clause-admitted : goal.give-requires-clause-admitted
give-requires-clause-admitted c =
    let inv = c.self.invariant in
    let own = subst (λ s. IsDaemonPart s.view) c.self.view_is inv.4 in
    let daemon = ap (λ s. s.view.is_daemon) (sym c.self.view_is) ∙ inv.1 in
    let layout = inv.3 ∙ ap (λ s. s.view.setup.layout) c.self.view_is in
    (first_given c.args.self.now.view c.first-value.new.self.view c.new-machine.result c.self.inside.layout c.first-value.result c.new-machine.ensures layout own daemon c.first-value.ensures.tells).0

pub opening-init : goal.opening-init
opening-init c =
    let inv = c.self.invariant in
    let own = subst (λ s. IsDaemonPart s.view) c.self.view_is inv.4 in
    let daemon = ap (λ s. s.view.is_daemon) (sym c.self.view_is) ∙ inv.1 in
    let layout = inv.3 ∙ ap (λ s. s.view.setup.layout) c.self.view_is in
    record {
      table = c.first-value.ensures.table;
      shut = c.first-value.ensures.shut;
      under = (first_given c.args.self.now.view c.first-value.new.self.view c.new-machine.result c.self.inside.layout c.first-value.result c.new-machine.ensures layout own daemon c.first-value.ensures.tells).1 c.give.new.self c.give.ensures.given;
    }

pub give-requires-in-Load-clause-admitted : goal.give-requires-in-Load-clause-admitted
give-requires-in-Load-clause-admitted c =
    let was = c.opening.invariant in
    let own = subst (λ s. IsDaemonPart s.view) c.self.view_is c.self.invariant.4 in
    let act : opening_act c.opening.machine ≡ Load c.from.result = sym c.in-Load.ensures.act ∙ ap Load (sym c.from.ensures) in
    (under_load c.args.self.now.view c.opening.self.view c.load-value.new.self.view c.opening.machine c.from.result c.load-value.result own was.under.daemon was.under act was.under.begun c.load-value.ensures.tells).0

pub opening-preserved-in-Load : goal.opening-preserved-in-Load
opening-preserved-in-Load c =
    let was = c.opening.invariant in
    let own = subst (λ s. IsDaemonPart s.view) c.self.view_is c.self.invariant.4 in
    let act : opening_act c.opening.machine ≡ Load c.from.result = sym c.in-Load.ensures.act ∙ ap Load (sym c.from.ensures) in
    record {
      table = c.load-value.ensures.table ∙ was.table;
      shut = c.load-value.ensures.shut;
      under = rw c.give-in-Load.ensures.given
          ((under_load c.args.self.now.view c.opening.self.view c.load-value.new.self.view c.opening.machine c.from.result c.load-value.result own was.under.daemon was.under act was.under.begun c.load-value.ensures.tells).1);
    }

pub open_store-requires-clause-may : goal.open_store-requires-clause-may
open_store-requires-clause-may c =
    let was = c.opening.invariant in
    let own = subst (λ s. IsDaemonPart s.view) c.self.view_is c.self.invariant.4 in
    let act : opening_act c.opening.machine ≡ Store c.from-in-Store.result c.in-Store.value = sym c.in-Store.ensures.act ∙ ap (λ w. Store w c.in-Store.value) (sym c.from-in-Store.ensures) in
    (store_now c.args.self.now.view c.opening.self.view c.opening.machine c.from-in-Store.result c.in-Store.value own was.under act).storable.may

pub give-requires-in-Store-clause-admitted : goal.give-requires-in-Store-clause-admitted
give-requires-in-Store-clause-admitted c =
    let was = c.opening.invariant in
    let own = subst (λ s. IsDaemonPart s.view) c.self.view_is c.self.invariant.4 in
    let act : opening_act c.opening.machine ≡ Store c.from-in-Store.result c.in-Store.value = sym c.in-Store.ensures.act ∙ ap (λ w. Store w c.in-Store.value) (sym c.from-in-Store.ensures) in
    (under_store c.args.self.now.view c.opening.self.view c.open_store.new.self.view c.opening.machine c.from-in-Store.result c.in-Store.value own was.under act c.open_store.ensures.tells).0

pub opening-preserved : goal.opening-preserved
opening-preserved c =
    let was = c.opening.invariant in
    let own = subst (λ s. IsDaemonPart s.view) c.self.view_is c.self.invariant.4 in
    let act : opening_act c.opening.machine ≡ Store c.from-in-Store.result c.in-Store.value = sym c.in-Store.ensures.act ∙ ap (λ w. Store w c.in-Store.value) (sym c.from-in-Store.ensures) in
    record {
      table = c.open_store.ensures.table ∙ was.table;
      shut = c.open_store.ensures.shut;
      under = rw c.give-in-Store.ensures.given
          ((under_store c.args.self.now.view c.opening.self.view c.open_store.new.self.view c.opening.machine c.from-in-Store.result c.in-Store.value own was.under act c.open_store.ensures.tells).1);
    }

pub returns-clause-reopens : goal.returns-clause-reopens
returns-clause-reopens c =
    let was = c.opening.invariant in
    let own = subst (λ s. IsDaemonPart s.view) c.self.view_is c.self.invariant.4 in
    (reopened c.args.self.now.view c.opening.self.view c.opening.machine c.opened.result own was.under (search rules) c.opened.ensures).0

pub returns-clause-number : goal.returns-clause-number
returns-clause-number c =
    let was = c.opening.invariant in
    let own = subst (λ s. IsDaemonPart s.view) c.self.view_is c.self.invariant.4 in
    (reopened c.args.self.now.view c.opening.self.view c.opening.machine c.opened.result own was.under (search rules) c.opened.ensures).1
