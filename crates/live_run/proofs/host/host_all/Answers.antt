use Rattle.std.proofs.Common.{◌<◌, ◌+◌, length, drop, slice_index_or, refl, sym, ap, ◌∙◌, subst, arith}
use Rattle.std.proofs.lemmas.Option.{slice_get-get_or}
use Rattle.clock_gate.specs.declared.trace.HostRow.TheVariants.{Clock}
use Rattle.segment_views.specs.Views.{HostPart, SeatView}
use Rattle.live_report.specs.LiveRun.{part_after_rows}
use Rattle.live_run.proofs.HostRows.{Counts, counts_first, may_do, counts_next, left_next}
use Rattle.live_run.proofs.host.host_all.Goals as goal

pub rows-init : goal.rows-init
rows-init g c = record { table = refl; same = refl; counts = counts_first c.args.rows.now c.args.host.view c.requires.begins; left = refl }

pub do_row-requires-clause-may : goal.do_row-requires-clause-may
do_row-requires-clause-may g c =
    let within : c.rows.done < length c.args.rows.now = omega (arith, c.rows-test.true) in
    may_do c.args.rows.now c.args.host.view c.rows.host.view c.rows.done _ c.requires.begins (ap (λ (v : SeatView). v.setup) c.rows.invariant.same) c.rows.invariant.counts
    (slice_get-get_or c.args.rows.now c.rows.done (Clock 0) within)

pub rows-preserved : goal.rows-preserved
rows-preserved g c =
    let within : c.rows.done < length c.args.rows.now = omega (arith, c.rows-test.true) in
    let row = slice_index_or c.args.rows.now c.rows.done (Clock 0) in
    let at = slice_get-get_or c.args.rows.now c.rows.done (Clock 0) within in
    let step = c.do_row.ensures.view in
    let part = ap (λ (v : SeatView). v.host_part) step in
    record {
      table = c.do_row.ensures.table ∙ c.rows.invariant.table;
      same = step ∙ (λ i. record (c.rows.invariant.same i) { host_part = sym part i });
      counts = subst (λ (p : HostPart). Counts c.args.rows.now (c.rows.done + 1) p) (sym part) (counts_next c.args.rows.now c.rows.done row c.rows.host.view.host_part at c.rows.invariant.counts);
      left = ap (λ (p : HostPart). part_after_rows (drop (c.rows.done + 1) c.args.rows.now) p) part ∙ (left_next c.args.rows.now c.rows.done row c.rows.host.view.host_part at ∙ c.rows.invariant.left);
    }
