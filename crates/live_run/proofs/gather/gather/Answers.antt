use Rattle.std.proofs.Common.{rules, ◌≡◌, ◌+◌, ◌<◌, ◌≤◌, refl, ap, ◌∙◌, subst, arith}
use Rattle.std.proofs.lemmas.Option.{same_Some}
use Rattle.live_run.specs.declared.clients.Client.{Client}
use Rattle.live_run.specs.declared.gather.Gathered.{Gathered}
use Rattle.live_run.specs.Gathered.{WasGathered}
use Rattle.live_report.proofs.Clients.{clients_within}
use Rattle.live_run.proofs.Gathering.{HasGathered, gathered_none, next_left, next_stacked, next_done, next_answers, gathered_more, answers_many, gathered_all}
use Rattle.live_run.proofs.gather.gather.Goals as goal
use Rattle.live_run.proofs.gather.gather.Goals.{in-Some, in_default}

pub clients-init : goal.clients-init
clients-init c = (refl, gathered_none c.args.table.now c.args.trace.now c.args.workers.items c.args.gathered c.requires.off c.requires.gathering)

pub add-requires-clause-table : goal.add-requires-clause-table
add-requires-clause-table c =
    let h = c.clients.invariant.1 in
    let here : c.clients.place < c.args.trace.now.clients = search rules in
    let n = next_left c.args.table.now c.args.trace.now c.clients.place c.clients.workers.items c.clients.gathered here h in
    let same : c.in-Some.client ≡ n.0 = same_Some c.in-Some.client n.0 (c.in-Some.ensures.stacked n.0 n.1.later (next_stacked c.args.table.now c.args.trace.now c.clients.place c.clients.workers.items c.clients.gathered n.0 n.1)).0 in
    let done = next_done c.args.table.now c.args.trace.now c.clients.place c.clients.workers.items c.clients.gathered n.0 n.1 in
    (h.host_table, h.daemon_table, ap (λ (x : Client). x.seat.table) same ∙ done.of_table)

pub add-requires-clause-hand : goal.add-requires-clause-hand
add-requires-clause-hand c =
    let h = c.clients.invariant.1 in
    let here : c.clients.place < c.args.trace.now.clients = search rules in
    let n = next_left c.args.table.now c.args.trace.now c.clients.place c.clients.workers.items c.clients.gathered here h in
    let same : c.in-Some.client ≡ n.0 = same_Some c.in-Some.client n.0 (c.in-Some.ensures.stacked n.0 n.1.later (next_stacked c.args.table.now c.args.trace.now c.clients.place c.clients.workers.items c.clients.gathered n.0 n.1)).0 in
    ap (λ (x : Client). x.seat.in_hand) same ∙ (next_done c.args.table.now c.args.trace.now c.clients.place c.clients.workers.items c.clients.gathered n.0 n.1).hand

pub add-requires-clause-answers : goal.add-requires-clause-answers
add-requires-clause-answers c =
    let h = c.clients.invariant.1 in
    let here : c.clients.place < c.args.trace.now.clients = search rules in
    let n = next_left c.args.table.now c.args.trace.now c.clients.place c.clients.workers.items c.clients.gathered here h in
    next_answers c.args.table.now c.args.trace.now c.clients.place c.clients.workers.items c.clients.gathered n.0 n.1

pub clients-preserved : goal.clients-preserved
clients-preserved c =
    let h = c.clients.invariant.1 in
    let table = c.args.table.now in
    let trace = c.args.trace.now in
    let place = c.clients.place in
    let here : place < trace.clients = search rules in
    let n = next_left table trace place c.clients.workers.items c.clients.gathered here h in
    let taken = c.take.ensures.stacked n.0 n.1.later (next_stacked table trace place c.clients.workers.items c.clients.gathered n.0 n.1) in (
      c.take.ensures.len ∙ c.clients.invariant.0,
      elim c.match-take.branch [
        | in-Some w ↦
            let same : w.in-Some.client ≡ n.0 = same_Some w.in-Some.client n.0 (w.in-Some.ensures.stacked n.0 n.1.later (next_stacked table trace place c.clients.workers.items c.clients.gathered n.0 n.1)).0 in
            let was : WasGathered n.0 c.clients.gathered w.add.new.self = subst (λ (x : Client). WasGathered x c.clients.gathered w.add.new.self) same w.add.ensures.added in
            let more : HasGathered table trace (place + 1) c.take.new.workers.items w.add.new.self = gathered_more table trace place c.clients.workers.items c.clients.gathered n.0 n.1 c.take.new.workers.items w.add.new.self taken.1 was in
            subst (λ (g : Gathered). HasGathered table trace (place + 1) c.take.new.workers.items g) (search rules) more
        | in_default w ↦ search rules
      ],
    )

pub returns-clause-run : goal.returns-clause-run
returns-clause-run c =
    let all : c.args.trace.now.clients ≤ c.clients.place = search rules in
    gathered_all c.args.table.now c.args.trace.now c.clients.place c.clients.workers.items c.clients.gathered all c.clients.invariant.1

pub returns-clause-clients : goal.returns-clause-clients
returns-clause-clients c = c.clients.invariant.1.tables

pub returns-clause-few : goal.returns-clause-few
returns-clause-few c =
    let all : c.args.trace.now.clients ≤ c.clients.place = search rules in
    let many = answers_many c.args.table.now c.args.trace.now c.clients.place c.clients.workers.items c.clients.gathered all c.clients.invariant.1 in
    let within = clients_within c.args.trace.now c.requires.gathering.lawful in
    omega (arith, many, within.1)
