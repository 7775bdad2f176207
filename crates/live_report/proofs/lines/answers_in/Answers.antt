use Rattle.std.proofs.Common.{◌≡◌, drop, length, arith, ap}
use Rattle.std.proofs.lemmas.List.{drop_all}
use Rattle.live_report.specs.Counted.{answers_in}
use Rattle.live_report.proofs.Parts.{answers_in_more}
use Rattle.live_report.proofs.lines.answers_in.Goals as goal

pub clients-preserved : goal.clients-preserved
clients-preserved c =
    let sums = answers_in_more c.args.answers.now c.clients.mine-index c.mine-item.result (omega (arith, c.clients-test.true)) in
    let is = c.clients.invariant.1 in
    let fits = c.clients.invariant.0 in
    let long = ap length c.mine-item.is in
    let most = c.saturating_add-count.ensures in (omega (arith, fits, most), omega (arith, sums, is, fits, long, most, c.len.ensures))

pub returns : goal.returns
returns c =
    let over : answers_in (drop c.clients.mine-index c.args.answers.now) ≡ 0 = ap answers_in (drop_all c.clients.mine-index c.args.answers.now (omega (arith, c.clients-test.false))) in
    let is = c.clients.invariant.1 in
    let fits = c.clients.invariant.0 in
    omega (arith, over, is, fits)
