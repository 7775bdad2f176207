use Rattle.std.proofs.Common.{◌≡◌, drop, vec_len}
use Rattle.live_run.specs.Dealt.{ArePlanned}
use Rattle.live_run.proofs.workers.with_calls.Given as goal

abbrev pub invariant-rows : goal.invariant-rows
invariant-rows l = (vec_len l.plans ≡ vec_len l.fn.plans) × ArePlanned l.rows (drop l.row-index l.rows) l.plans.items
