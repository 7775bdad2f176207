-- The host's rows, one after another.
use Rattle.std.proofs.Common.{◌≡◌, ℕ, ◌+◌, ◌≤◌, List, [], ◌∷◌, ◌++◌, length, drop, Option, Some, None, slice_get, sym, ap, ◌∙◌, subst, arith, length-append}
use Rattle.std.proofs.lemmas.List.{drop_more}
use Rattle.std.proofs.lemmas.Option.{slice_get_within, get_or_from_slice_get}
use Rattle.clock_gate.specs.declared.trace.HostRow.{HostRow}
use Rattle.clock_gate.specs.declared.trace.HostRow.TheVariants.{Clock, Page, Disrupt}
use Rattle.abstract_run.specs.HostRun.{clocks_at}
use Rattle.abstract_run.proofs.RowCounts.{clocks_more, clocks_page, clocks_disrupt, clocks_most, clocks_first, next_clock}
use Rattle.segment_views.specs.Views.{HostPart, SeatView}
use Rattle.segment_views.specs.Seats.{pages_at_first}
use Rattle.segment_rule.specs.Hosts.{MayDoRow, part_after}
use Rattle.live_report.specs.LiveRun.{part_after_rows}
use Rattle.live_run.specs.Host.{HostBegins}

-- after so many rows: the clock's rows are those among them, and there are no more pages than rows
pub record Counts (rows : List HostRow) (done : ℕ) (part : HostPart) : Type 0 where
  pub clock : part.rows ≡ clocks_at rows done
  pub pages : length part.pages ≤ done

few_first : (page : Option (List ℕ)) → length (pages_at_first page) ≤ 1
few_first None = omega arith
few_first (Some page) = omega arith

pub counts_first : (rows : List HostRow) (v : SeatView) → HostBegins rows v → Counts rows 1 v.host_part
counts_first rows v begins = subst (Counts rows 1) (sym begins.first) (record { clock = sym (clocks_first rows begins.host.begins); pages = few_first v.setup.page })

-- the next row may be done
pub may_do : (rows : List HostRow) (v w : SeatView) (done : ℕ) (row : HostRow) → HostBegins rows v → w.setup ≡ v.setup → Counts rows done w.host_part → slice_get rows done ≡ Some row → MayDoRow row w
may_do rows v w done (Clock number) begins setup counts at =
    let clock = counts.clock in
    let next = next_clock v.setup.rows rows done number begins.host at in
    let more = clocks_more rows done number at in
    let most = clocks_most v.setup.rows rows (done + 1) begins.host in
    let same : w.setup.rows ≡ v.setup.rows = ap (λ s. s.rows) setup in
    (omega (arith, clock, next), omega (arith, clock, more, most, same))
may_do rows v w done (Page words) begins setup counts at =
    let within = slice_get_within rows done (Page words) at in
    let few = begins.few in
    let pages = counts.pages in
    omega (arith, within, few, pages)
may_do rows v w done Disrupt begins setup counts at = tt

-- and after it
pub counts_next : (rows : List HostRow) (done : ℕ) (row : HostRow) (part : HostPart) → slice_get rows done ≡ Some row → Counts rows done part → Counts rows (done + 1) (part_after row part)
counts_next rows done (Clock number) part at counts =
    record { clock = ap (λ n. n + 1) counts.clock ∙ sym (clocks_more rows done number at); pages = (let few = counts.pages in omega (arith, few)) }
counts_next rows done (Page words) part at counts =
    record {
      clock = counts.clock ∙ sym (clocks_page rows done words at);
      pages = (let few = counts.pages in let more : length (part.pages ++ words ∷ []) ≡ length part.pages + 1 = length-append part.pages (words ∷ []) in omega (arith, few, more));
    }
counts_next rows done Disrupt part at counts =
    record { clock = counts.clock ∙ sym (clocks_disrupt rows done at); pages = (let few = counts.pages in omega (arith, few)) }

pub left_next : (rows : List HostRow) (done : ℕ) (row : HostRow) (part : HostPart) → slice_get rows done ≡ Some row
    → part_after_rows (drop (done + 1) rows) (part_after row part) ≡ part_after_rows (drop done rows) part
left_next rows done row part at =
    let more : drop done rows ≡ row ∷ drop (done + 1) rows = drop_more rows done row (slice_get_within rows done row at) ∙ ap (λ r. r ∷ drop (done + 1) rows) (get_or_from_slice_get rows done row row at) in
    ap (λ (l : List HostRow). part_after_rows l part) (sym more)
