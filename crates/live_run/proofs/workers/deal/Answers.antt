use Rattle.std.proofs.Common.{rules, ◌≡◌, ◌%◌, ◌<◌, List, length, slice_index_or, sym, subst}
use Rattle.std.specs.Prelude.{All}
use Rattle.live_run.specs.declared.clients.Client.{Client}
use Rattle.std.proofs.lemmas.List.Elements.{All-push, All-set}
use Rattle.live_run.specs.Work.{CanTurn, IsWorker}
use Rattle.live_run.proofs.Dealing.{deal_stacked}
use Rattle.live_run.proofs.workers.deal.Goals as goal

pub returns-clause-stacked : goal.returns-clause-stacked
returns-clause-stacked c = λ clients on. deal_stacked c.args.place c.len.result c.args.workers.now.items c.index_mut.result.now (record { clients = c.push_reserved.new.self }) c.args.client clients (search rules) (search rules) (search rules) c.push_reserved.ensures.items on

pub returns-clause-work : goal.returns-clause-work
returns-clause-work c = λ table clock work can.
    let q = c.args.place % c.len.result in
    let here : q < length c.args.workers.now.items = search rules in
    let at : c.index_mut.result.now ≡ slice_index_or c.args.workers.now.items q c.index_mut.result.now = search rules in
    let old : IsWorker table clock c.index_mut.result.now = subst (IsWorker table clock) (sym at) (work q c.index_mut.result.now here) in
    All-set (IsWorker table clock) c.args.workers.now.items q (record { clients = c.push_reserved.new.self })
    (subst (λ (l : List Client). All (CanTurn table clock) l) (sym c.push_reserved.ensures.items) (All-push (CanTurn table clock) c.index_mut.result.now.clients.items c.args.client old can)) work
