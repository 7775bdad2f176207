use Rattle.std.proofs.Common.{rules, ◌≡◌, ◌≢◌, ◌+◌, ℕ, List, ◌∷◌, vec_len, sym, ap, ◌∙◌, subst, arith}
use Rattle.std.specs.Prelude.{All}
use Rattle.segment_views.specs.Seats.{part_of}
use Rattle.live_report.specs.ClientCalls.{client_start}
use Rattle.live_report.specs.LiveRun.{setup_of}
use Rattle.live_run.specs.declared.clients.Client.{Client}
use Rattle.live_run.specs.Dealt.{stacks_of, Stacked, HasPlaces, CanSit, IsReady}
use Rattle.live_run.proofs.Plans.{start_further}
use Rattle.live_run.proofs.Dealing.{DealtFrom, dealt_more, dealt_all}
use Rattle.live_run.proofs.workers.dealt.Goals as goal

pub dealing-preserved : goal.dealing-preserved
dealing-preserved c =
    let inv = c.dealing.invariant in
    let table = c.args.table.now in
    let trace = c.args.trace.now in
    let split = c.split-seat.ensures in
    let left = inv.left in
    let before : ℕ = vec_len c.dealing.plans in
    let place : ℕ = vec_len c.seated-further.new.plans in
    let one_less : place + 1 ≡ before = c.seated-further.ensures.len in
    let at : c.len.result ≡ place = c.len.ensures in
    let further : before ≢ 1 = λ e. absurd (omega (arith, left, e, c.dealing-test.true, c.len-clients.ensures)) in
    let sits : CanSit table trace before c.split-seat.result = record {
      lawful = c.requires.lawful;
      setup = c.requires.setup;
      of_table = split.table ∙ inv.table;
      view = split.seen ∙ (ap part_of inv.view ∙ sym (start_further (setup_of trace) before further));
      hand = split.further.1;
    } in
    let ready : IsReady table trace before c.seated-further.result = c.seated-further.ensures.ready table trace sits inv.plans in
    let counted = split.counted in
    let splits = inv.first.1 in
    record {
      table = split.first.1 ∙ inv.table;
      view = split.view ∙ inv.view;
      first = (split.first.0, omega (arith, counted, splits), split.first.2);
      plans = c.seated-further.ensures.plans trace.calls inv.plans;
      left = omega (arith, left, one_less);
      len = c.deal.ensures.len ∙ inv.len;
      places = subst (λ (n : ℕ). All (HasPlaces n) c.deal.new.workers.items) at c.deal.ensures.places;
      work = c.deal.ensures.work table trace.clock inv.work ready.can;
      dealt = dealt_more table trace place c.dealing.workers.items c.deal.new.workers.items c.seated-further.result (subst (λ (n : ℕ). IsReady table trace n c.seated-further.result) (sym one_less) ready)
          (subst (λ (n : ℕ). (clients : List Client) → Stacked (n + 1) (stacks_of c.dealing.workers.items) clients → Stacked n (stacks_of c.deal.new.workers.items) (c.seated-further.result ∷ clients)) at c.deal.ensures.stacked)
          (subst (λ (n : ℕ). DealtFrom table trace n c.dealing.workers.items) (sym one_less) inv.dealt);
    }

pub returns-clause-work : goal.returns-clause-work
returns-clause-work c =
    let inv = c.dealing.invariant in
    let trace = c.args.trace.now in
    let one : vec_len c.dealing.plans ≡ 1 = search rules in
    let sits : CanSit c.args.table.now trace (vec_len c.dealing.plans) c.dealing.first = record {
      lawful = c.requires.lawful;
      setup = c.requires.setup;
      of_table = inv.table;
      view = inv.view ∙ ap (client_start (setup_of trace)) (sym one);
      hand = inv.first.2;
    } in
    c.deal-2.ensures.work c.args.table.now trace.clock inv.work (c.seated-first.ensures.ready c.args.table.now trace sits inv.plans).can

pub returns-clause-dealt : goal.returns-clause-dealt
returns-clause-dealt c =
    let inv = c.dealing.invariant in
    let table = c.args.table.now in
    let trace = c.args.trace.now in
    let one : vec_len c.dealing.plans ≡ 1 = search rules in
    let sits : CanSit table trace (vec_len c.dealing.plans) c.dealing.first = record {
      lawful = c.requires.lawful;
      setup = c.requires.setup;
      of_table = inv.table;
      view = inv.view ∙ ap (client_start (setup_of trace)) (sym one);
      hand = inv.first.2;
    } in
    dealt_all table trace c.deal-2.new.workers.items
    (dealt_more table trace 0 c.dealing.workers.items c.deal-2.new.workers.items c.seated-first.result
    (subst (λ (n : ℕ). IsReady table trace n c.seated-first.result) one (c.seated-first.ensures.ready table trace sits inv.plans))
    c.deal-2.ensures.stacked
    (subst (λ (n : ℕ). DealtFrom table trace n c.dealing.workers.items) one inv.dealt))
