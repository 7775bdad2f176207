use Rattle.std.proofs.Common.{◌≡◌, sym, ap, subst, ◌∙◌}
use Rattle.std.specs.Prelude.{is_some}
use Rattle.writer_reopen.specs.declared.order.Order.{Order}
use Rattle.writer_reopen.specs.PollMachine.{Polling, new_polling}
use Rattle.segment_rule.specs.Polls.{order_for, MayBegin}
use Rattle.segment_rule.proofs.Polling.{may_begin, same_order}
use Rattle.segment_rule.proofs.daemon.DaemonSeat.poll_until.Goals as goal

pub run_poll-polled-requires-clause-first : goal.run_poll-polled-requires-clause-first
run_poll-polled-requires-clause-first c = c.begin-machine.ensures ∙ ap (λ (p : Polling). new_polling p.order) (sym c.begin-machine.ensures)

pub run_poll-polled-requires-clause-may : goal.run_poll-polled-requires-clause-may
run_poll-polled-requires-clause-may c =
    let inv = c.self.invariant in
    let open_ = inv.5 (ap (λ s. s.is_open) c.self.view_is ∙ c.requires.open) in
    let support = c.requires.support ∙ sym (ap (λ s. is_some s.view.setup.page) c.self.view_is) in
    let rows = c.requires.clock ∙ sym (ap (λ s. s.view.setup.rows) c.self.view_is) in
    let same : c.begin-machine.result.order ≡ order_for c.self.inside.seat.me.0 c.args.daemon c.args.number c.args.heard c.args.stop c.args.tries =
    ap (λ (p : Polling). p.order) c.begin-machine.ensures ∙ same_order c.self.inside.seat.me.0 c.args.daemon c.self.inside.layout c.self.inside.generation c.args.number c.args.heard c.args.stop c.args.tries inv.3 open_ in
    subst (λ (o : Order). MayBegin c.args.clock.now o c.self.inside.seat.me.0) (sym same)
    (may_begin c.args.clock.now c.self.inside.seat.me.0 c.args.daemon c.self.inside.generation c.args.number c.args.heard c.args.stop c.args.tries inv.1 inv.4 open_ support c.requires.drift c.requires.base rows c.requires.rows c.requires.some_tries c.requires.most_tries c.requires.stops)
