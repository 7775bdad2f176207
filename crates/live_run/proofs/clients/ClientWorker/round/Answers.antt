use Rattle.std.proofs.Common.{rules, ◌≡◌, ◌<◌, length, slice_index_or, subst}
use Rattle.std.proofs.lemmas.List.Elements.{All-set}
use Rattle.std.proofs.lemmas.List.{get_or_read}
use Rattle.live_run.specs.declared.clients.Client.{Client}
use Rattle.live_run.specs.Work.{CanTurn, TurnedFrom}
use Rattle.live_run.proofs.Turns.{turned_more, idle_more}
use Rattle.live_run.proofs.clients.ClientWorker.round.Goals as goal
use Rattle.live_run.proofs.clients.ClientWorker.round.Goals.{then-turn, else-turn}

pub clients-preserved : goal.clients-preserved
clients-preserved g c =
    let inv = c.clients.invariant in
    let table = c.args.table.now in
    let clock = c.args.clock.now in
    let old = c.args.self.now.clients.items in
    let now = c.clients.self.clients.items in
    let place = c.clients.place in
    let here : place < length old = search rules in
    let there : place < length now = search rules in
    let same : length now ≡ length old = search rules in
    let read : c.index_mut.result.now ≡ slice_index_or now place c.index_mut.result.now = search rules in
    record {
      len = inv.len;
      can = All-set (CanTurn table clock) now place c.turn.new.self c.turn.ensures.can inv.can;
      turned = turned_more clock place old now c.turn.new.self same here inv.turned (λ d. subst (λ (x : Client). TurnedFrom clock x c.turn.new.self) (get_or_read now place c.index_mut.result.now there read d) c.turn.ensures.turned);
      idle = elim c.if-turn.branch [
        | then-turn w ↦ λ quiet. search rules
        | else-turn w ↦ λ quiet. idle_more place now c.turn.new.self there (inv.idle (search rules)) (c.turn.ensures.done (search rules))
      ];
    }
