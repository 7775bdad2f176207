use Rattle.std.proofs.Common.{◌≡◌, sym, ap, subst, ◌∙◌}
use Rattle.clock_gate.specs.declared.act.Act.TheVariants.{Load, Store}
use Rattle.writer_reopen.specs.PollMachine.{Polling, polling_act, polling_given}
use Rattle.segment_rule.proofs.Polling.{IsPolling, may_wanted, polling_first, polling_load, poll_may, polling_store, polled_at_end}
use Rattle.segment_rule.proofs.daemon.DaemonSeat.run_poll.Goals as goal

pub polling-init : goal.polling-init
polling-init c = record {
  table = c.first-value.ensures.table;
  shut = c.first-value.ensures.shut;
  polling = subst (λ (p : Polling). IsPolling c.args.clock.now c.args.machine.order c.args.self.now.view p c.first-value.new.self.view)
      (sym (c.give.ensures.given ∙ ap (λ (p : Polling). polling_given c.args.clock.now p c.first-value.result) c.requires.first))
      (polling_first c.args.clock.now c.args.machine.order c.args.self.now.view c.first-value.new.self.view c.first-value.result c.requires.may c.first-value.ensures.tells);
}

pub load-value-requires-clause-may : goal.load-value-requires-clause-may
load-value-requires-clause-may c =
    let was = c.polling.invariant in
    let act : polling_act c.polling.machine ≡ Load c.from.result = sym c.in-Load.ensures.act ∙ ap Load (sym c.from.ensures) in
    may_wanted c.args.clock.now c.args.machine.order c.args.self.now.view c.polling.self.view c.polling.machine c.from.result c.requires.may was.polling act

pub polling-preserved-in-Load : goal.polling-preserved-in-Load
polling-preserved-in-Load c =
    let was = c.polling.invariant in
    let act : polling_act c.polling.machine ≡ Load c.from.result = sym c.in-Load.ensures.act ∙ ap Load (sym c.from.ensures) in
    record {
      table = c.load-value.ensures.table ∙ was.table;
      shut = c.load-value.ensures.shut;
      polling = rw c.give-in-Load.ensures.given
          (polling_load c.args.clock.now c.args.machine.order c.args.self.now.view c.polling.self.view c.load-value.new.self.view c.polling.machine c.from.result c.load-value.result c.requires.may was.polling act c.load-value.ensures.tells);
    }

pub poll_store-requires-clause-may : goal.poll_store-requires-clause-may
poll_store-requires-clause-may c =
    let was = c.polling.invariant in
    let act : polling_act c.polling.machine ≡ Store c.from-in-Store.result c.in-Store.value = sym c.in-Store.ensures.act ∙ ap (λ w. Store w c.in-Store.value) (sym c.from-in-Store.ensures) in
    poll_may c.args.clock.now c.args.machine.order c.args.self.now.view c.polling.self.view c.polling.machine c.from-in-Store.result c.in-Store.value c.requires.may was.polling act

pub polling-preserved : goal.polling-preserved
polling-preserved c =
    let was = c.polling.invariant in
    let act : polling_act c.polling.machine ≡ Store c.from-in-Store.result c.in-Store.value = sym c.in-Store.ensures.act ∙ ap (λ w. Store w c.in-Store.value) (sym c.from-in-Store.ensures) in
    record {
      table = c.poll_store.ensures.table ∙ was.table;
      shut = c.poll_store.ensures.shut;
      polling = rw c.give-in-Store.ensures.given
          (polling_store c.args.clock.now c.args.machine.order c.args.self.now.view c.polling.self.view c.polling.machine c.from-in-Store.result c.in-Store.value c.requires.may was.polling act c.poll_store.new.self.view c.poll_store.ensures.tells);
    }

pub returns-clause-polls : goal.returns-clause-polls
returns-clause-polls c = (polled_at_end c.args.clock.now c.args.machine.order c.args.self.now.view c.polling.self.view c.polling.machine c.polled.result c.requires.may c.polling.invariant.polling c.polled.ensures.end).0

pub returns-clause-open : goal.returns-clause-open
returns-clause-open c = (polled_at_end c.args.clock.now c.args.machine.order c.args.self.now.view c.polling.self.view c.polling.machine c.polled.result c.requires.may c.polling.invariant.polling c.polled.ensures.end).1

pub returns-clause-support : goal.returns-clause-support
returns-clause-support c = (polled_at_end c.args.clock.now c.args.machine.order c.args.self.now.view c.polling.self.view c.polling.machine c.polled.result c.requires.may c.polling.invariant.polling c.polled.ensures.end).2
