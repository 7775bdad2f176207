use Rattle.std.proofs.Common.{◌≡◌, ◌+◌, ◌∷◌, [], arith, drop, ap, sym, ◌∙◌}
use Rattle.std.specs.Prelude.{vec_items}
use Rattle.std.proofs.lemmas.List.{drop_all, drop_more}
use Rattle.vmclock_time.specs.Reads.{read_in}
use Rattle.vmclock_time.proofs.Made.{Shows, shows_none, shows_more, shows_all, reads_most}
use Rattle.vmclock_time.specs.declared.rows.PageRow.{PageRow}
use Rattle.vmclock_time.proofs.reporting.report.Goals as goal

pub rows-init : goal.rows-init
rows-init c = (rw (c.new-told.ensures.items, c.new-making.ensures) (shows_none c.args.rows.now), rw c.new-making.ensures (omega arith))

pub rows-preserved : goal.rows-preserved
rows-preserved c =
    let row = c.row-item.result in
    let split : drop c.rows.row-index c.args.rows.now ≡ row ∷ drop (c.rows.row-index + 1) c.args.rows.now = drop_more c.args.rows.now c.rows.row-index row (omega (arith, c.rows-test.true)) ∙ ap (λ (first : PageRow). first ∷ drop (c.rows.row-index + 1) c.args.rows.now) (sym c.row-item.is) in
    let was : Shows c.args.rows.now (vec_items c.rows.told) c.rows.making (row ∷ drop (c.rows.row-index + 1) c.args.rows.now) = rw split at c.rows.invariant.0 in
    let most = reads_most c.rows.making.reads (read_in c.rows.making.last row) in
    (rw (c.in_ok-take_row.ensures.told, c.in_ok-take_row.ensures.made) (shows_more c.args.rows.now (vec_items c.rows.told) c.rows.making row (drop (c.rows.row-index + 1) c.args.rows.now) was), rw c.in_ok-take_row.ensures.made (omega (arith, most, c.rows.invariant.1)))

pub returns : goal.returns
returns c =
    let over : drop c.rows.row-index c.args.rows.now ≡ [] = drop_all c.rows.row-index c.args.rows.now (omega (arith, c.rows-test.false)) in
    let all = shows_all c.args.rows.now (vec_items c.rows.told) c.rows.making (rw over at c.rows.invariant.0) in
    (c.from_vec.ensures ∙ all.0, c.failed.ensures ∙ all.1)
