use Rattle.std.proofs.Common.{rules, List, sym, ap, ◌∙◌, subst, arith, All}
use Rattle.clock_gate.specs.declared.trace.CallRow.{CallRow}
use Rattle.live_run.specs.Dealt.{IsOfClients, ArePlans}
use Rattle.feed_queue.specs.Ends.{End}
use Rattle.live_report.proofs.Clients.{clients_within}
use Rattle.live_run.proofs.Planning.{calls_within}
use Rattle.live_run.proofs.room.room_for.Goals as goal

pub plans-requires : goal.plans-requires
plans-requires c = subst (λ (l : List CallRow). All (IsOfClients c.args.trace.now.clients) l) (sym c.as_slice.ensures) (calls_within c.args.trace.now c.requires.lawful)

pub idle_workers-requires : goal.idle_workers-requires
idle_workers-requires c =
    let within = clients_within c.args.trace.now c.requires.lawful in
    let most = c.requires.most in
    (omega (arith, most, c.min.ensures), within.1)

pub returns : goal.returns
returns c =
    let within = clients_within c.args.trace.now c.requires.lawful in
    let some_workers = c.requires.some in
    record {
      plans = subst (λ (l : List CallRow). ArePlans l 1 c.in_ok-plans.plans.items) c.as_slice.ensures c.in_ok-plans.ensures.plans;
      all_plans = c.in_ok-plans.ensures.len;
      some_workers = omega (arith, within.0, some_workers, c.in_ok-workers.ensures.len, c.min.ensures);
      places = c.in_ok-workers.ensures.places;
      idle = c.in_ok-workers.ensures.idle;
      no_lines = c.in_ok-reserve.ensures.items ∙ c.new-lines.ensures.items;
      lines = search rules;
      no_answers = c.in_ok-reserve-2.ensures.items ∙ c.new-answers.ensures.items;
      answers = search rules;
      no_seats = c.in_ok-reserve-3.ensures.items ∙ c.new-seats.ensures.items;
      seats = search rules;
      fed = record {
        input_queue = ap (λ (e : End). e.queue) c.in_ok-queue.ensures.put;
        input_polls = ap (λ (e : End). e.polls) c.in_ok-queue.ensures.put;
        output_queue = ap (λ (e : End). e.queue) c.in_ok-queue.ensures.taken;
        output_polls = ap (λ (e : End). e.polls) c.in_ok-queue.ensures.taken;
        none = ap (λ (e : End). e.count) c.in_ok-queue.ensures.taken;
      };
    }
