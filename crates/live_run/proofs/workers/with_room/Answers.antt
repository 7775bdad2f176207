use Rattle.std.proofs.Common.{rules, ◌≡◌, ◌<◌, ◌≤◌, [], length, slice_index_or, vec_len, refl, sym, ap, ◌∙◌, arith}
use Rattle.std.proofs.lemmas.List.{get_or_read}
use Rattle.live_run.specs.declared.workers.Plan.{Plan}
use Rattle.live_run.proofs.Planning.{planned_kept, room_more, all_planned}
use Rattle.live_run.proofs.workers.with_room.Goals as goal

pub plans-preserved : goal.plans-preserved
plans-preserved c =
    let inv = c.plans.invariant in
    let plans = c.plans.plans.items in
    let place = c.plans.place in
    let old : Plan = c.index_mut.result.now in
    let new : Plan = record { calls = old.calls; answers = c.reserve.new.self } in
    let here : place < length plans = search rules in
    let read : old ≡ slice_index_or plans place old = search rules in
    let look : c.index.result.now ≡ slice_index_or plans place c.index.result.now = search rules in
    let same : c.index.result.now ≡ old = get_or_read plans place c.index.result.now here look old ∙ sym read in
    let calls : c.len-calls.result ≡ vec_len old.calls = c.len-calls.ensures ∙ ap (λ (p : Plan). vec_len p.calls) same in
    let ok = c.in_ok-reserve.ensures.ok in
    record {
      len = inv.len;
      planned = λ rows was. planned_kept rows [] plans place old new here read refl c.reserve.ensures.items (inv.planned rows was);
      room = room_more plans place new here (omega (arith, ok, calls)) inv.room;
    }

pub returns-clause-plans : goal.returns-clause-plans
returns-clause-plans c = λ rows was.
    let all : length c.plans.plans.items ≤ c.plans.place = search rules in
    all_planned rows c.plans.plans.items (c.plans.invariant.planned rows was) (λ k d within. c.plans.invariant.room k d (omega (arith, all, within)))
