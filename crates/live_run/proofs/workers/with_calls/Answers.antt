use Rattle.std.proofs.Common.{rules, ◌≡◌, ◌+◌, ◌-◌, ◌<◌, ◌∷◌, List, drop, length, slice_index_or, refl, subst, arith}
use Rattle.std.proofs.lemmas.List.{drop_more}
use Rattle.clock_gate.specs.declared.trace.CallRow.{CallRow}
use Rattle.live_run.specs.declared.workers.Plan.{Plan}
use Rattle.live_run.specs.Dealt.{ArePlanned}
use Rattle.live_run.proofs.Planning.{planned_more}
use Rattle.live_run.proofs.workers.with_calls.Goals as goal

pub rows-preserved : goal.rows-preserved
rows-preserved c =
    let rows = c.args.rows.now in
    let i = c.rows.row-index in
    let plans = c.rows.plans.items in
    let none : CallRow = record { client = 0; tries = 0 } in
    let row : CallRow = slice_index_or rows i none in
    let below : i < length rows = omega (arith, c.rows-test.true) in
    let client = c.requires.clients i none below in
    let place : row.client ≡ row.client - 1 + 1 = omega (arith, client.0) in
    let here : row.client - 1 < length plans = omega (arith, client.0, client.1, c.rows.invariant.0, c.rows.plans.ok.0) in
    let was : ArePlanned rows (row ∷ drop (i + 1) rows) plans = subst (λ (l : List CallRow). ArePlanned rows l plans) (drop_more rows i none below) c.rows.invariant.1 in
    let old : Plan = c.index_mut.result.now in (
      c.rows.invariant.0,
      planned_more rows (drop (i + 1) rows) row plans (row.client - 1) old (record { calls = c.push.new.self; answers = old.answers }) place here (search rules) c.in_ok-push.ensures.items refl was,
    )
