-- What the host owns when it has done all rows: the rows of the clock and the pages of the trace, by their numbers.
use Rattle.std.proofs.Common.{◌≡◌, ℕ, suc, ◌+◌, ◌-◌, ◌<◌, List, [], ◌∷◌, ◌++◌, length, drop, take, map, refl, sym, ap, ◌∙◌, subst, arith, append_assoc, append-nil, Option, Some, None}
use Rattle.std.specs.Prelude.{slice_index, slice_index_or, slice_get}
use Rattle.std.proofs.lemmas.List.Elements.{All-head, All-tail}
use Rattle.std.proofs.lemmas.List.FromFn.{length-range_with_len}
use Rattle.clock_gate.specs.declared.trace.HostRow.{HostRow}
use Rattle.clock_gate.specs.declared.trace.HostRow.TheVariants.{Clock, Page, Disrupt}
use Rattle.clock_gate.specs.declared.trace.Trace.{Trace}
use Rattle.clock_gate.specs.Trace.{clock_numbers}
use Rattle.vmclock_page.specs.Rows.{IsRowOf, ArePageRows}
use Rattle.abstract_run.specs.Given.{IsGiven}
use Rattle.segment_views.specs.Views.{HostPart}
use Rattle.segment_views.specs.Seats.{pages_at_first, first_host_part}
use Rattle.segment_rule.specs.Hosts.{row_added, page_added}
use Rattle.lawful_report.specs.Pages.{row_markers, last_page, marker_from, marker_of_page}
use Rattle.live_report.proofs.Lists.{length_map, get_map}
use Rattle.live_report.specs.LiveRun.{setup_of, part_after_rows}
use Rattle.live_report.specs.LiveLaws.{page_words}

pages_after : (rows : List HostRow) (part : HostPart) → (part_after_rows rows part).pages ≡ part.pages ++ page_words rows
pages_after [] part = sym (append-nil part.pages)
pages_after (Clock number ∷ rows) part = pages_after rows (row_added part)
pages_after (Page words ∷ rows) part = pages_after rows (page_added words part) ∙ append_assoc part.pages (words ∷ []) (page_words rows)
pages_after (Disrupt ∷ rows) part = pages_after rows part

rows_after : (rows : List HostRow) (part : HostPart) → (part_after_rows rows part).rows ≡ part.rows + length (clock_numbers rows)
unfolding clock_numbers
rows_after [] part = omega arith
rows_after (Clock number ∷ rows) part = let rest = rows_after rows (row_added part) in omega (arith, rest)
rows_after (Page words ∷ rows) part = rows_after rows (page_added words part)
rows_after (Disrupt ∷ rows) part = rows_after rows part

-- the markers are those of the words
marker_of : List ℕ → ℕ
marker_of words = slice_index words 2

markers_are : (rows : List HostRow) → row_markers rows ≡ map marker_of (page_words rows)
unfolding marker_of
markers_are [] = refl
markers_are (Clock number ∷ rows) = markers_are rows
markers_are (Page words ∷ rows) = ap (λ (l : List ℕ). slice_index words 2 ∷ l) (markers_are rows)
markers_are (Disrupt ∷ rows) = markers_are rows

no_pages : (rows : List HostRow) → ArePageRows None rows → page_words rows ≡ []
no_pages [] are = refl
no_pages (Clock number ∷ rows) are = no_pages rows (All-tail (IsRowOf None) (Clock number) rows are)
no_pages (Page words ∷ rows) are = absurd (All-head (IsRowOf None) (Page words) rows are)
no_pages (Disrupt ∷ rows) are = no_pages rows (All-tail (IsRowOf None) Disrupt rows are)

-- the first row of the host is the clock's
pub record FirstRow (host : List HostRow) : Type 0 where
  pub rows : List HostRow
  pub is : host ≡ Clock 1 ∷ rows

first_row : (host : List HostRow) → take 1 host ≡ Clock 1 ∷ [] → FirstRow host
first_row [] is = absurd (cc is)
first_row (row ∷ rows) is = record { rows = rows; is = (let same : row ≡ Clock 1 = cc is in ap (λ (r : HostRow). r ∷ rows) same) }

-- the marker of a page by its number
marker_known : (page : Option (List ℕ)) (start : List ℕ) (rows : List HostRow) (k : ℕ) → page ≡ Some start → k < length (start ∷ page_words rows) → marker_from page rows k ≡ Some (slice_index (slice_index_or (start ∷ page_words rows) k []) 2)
unfolding marker_of
marker_known None start rows k is low = absurd (cc is)
marker_known (Some page) start rows k is low =
    let same : page ≡ start = cc is in
    let markers : slice_index page 2 ∷ row_markers rows ≡ map marker_of (start ∷ page_words rows) = (λ j. slice_index (same j) 2 ∷ markers_are rows j) in
    ap (λ (l : List ℕ). slice_get l k) markers ∙ get_map marker_of (start ∷ page_words rows) k [] low

skip_clock : (page : Option (List ℕ)) (rows : List HostRow) (k : ℕ) → marker_from page (Clock 1 ∷ rows) k ≡ marker_from page rows k
skip_clock None rows k = refl
skip_clock (Some start) rows k = refl

-- all rows are done
pub record HostDone (trace : Trace) (part : HostPart) : Type 0 where
  pub rows : part.rows ≡ length trace.clock
  pub pages : length part.pages - 1 ≡ last_page trace
  pub none : trace.page ≡ None → last_page trace ≡ 0
  pub marker : (k : ℕ) → k < length part.pages → marker_of_page trace k ≡ Some (slice_index (slice_index_or part.pages k []) 2)

clock_more : (rows : List HostRow) → length (clock_numbers (Clock 1 ∷ rows)) ≡ 1 + length (clock_numbers rows)
unfolding clock_numbers
clock_more rows = omega arith

pages_by : (trace : Trace) (page : Option (List ℕ)) (rows : List HostRow) (part : HostPart) → trace.page ≡ page → trace.host ≡ Clock 1 ∷ rows → ArePageRows page rows → part.rows ≡ length trace.clock → part.pages ≡ pages_at_first page ++ page_words rows → HostDone trace part
pages_by trace None rows part is host are all pages =
    let none = no_pages rows are in
    let nothing : part.pages ≡ [] = pages ∙ none in
    let markers : row_markers trace.host ≡ [] = ap row_markers host ∙ (markers_are rows ∙ ap (map marker_of) none) in
    record {
      rows = all;
      pages = ap (λ (l : List (List ℕ)). length l - 1) nothing ∙ sym (ap (λ (l : List ℕ). length l) markers);
      none = λ _. ap (λ (l : List ℕ). length l) markers;
      marker = λ k low. absurd (let zero_long : length part.pages ≡ 0 = ap (λ (l : List (List ℕ)). length l) nothing in omega (arith, low, zero_long));
    }
pages_by trace (Some start) rows part is host are all pages =
    let long : length part.pages ≡ suc (length (page_words rows)) = ap (λ (l : List (List ℕ)). length l) pages in
    let markers : length (row_markers trace.host) ≡ length (page_words rows) = ap (λ (l : List HostRow). length (row_markers l)) host ∙ (ap (λ (l : List ℕ). length l) (markers_are rows) ∙ length_map marker_of (page_words rows)) in
    record {
      rows = all;
      pages = omega (arith, long, markers);
      none = λ no_page. absurd (cc (is, no_page));
      marker = λ k low.
          ap (λ (l : List HostRow). marker_from trace.page l k) host
          ∙ (skip_clock trace.page rows k ∙ marker_known trace.page start rows k is (omega (arith, low, long)) ∙ ap (λ (l : List (List ℕ)). Some (slice_index (slice_index_or l k []) 2)) (sym pages));
    }

stores_after : (rows : List HostRow) (part : HostPart) → part.stores ≡ 0 → (part_after_rows rows part).stores ≡ 0
stores_after [] part none = none
stores_after (Clock number ∷ rows) part none = stores_after rows (row_added part) none
stores_after (Page words ∷ rows) part none = stores_after rows (page_added words part) refl
stores_after (Disrupt ∷ rows) part none = stores_after rows part none

-- the pages, and that no row is in hand
pub all_pages : (trace : Trace) → IsGiven trace → (part : HostPart) → part ≡ part_after_rows (drop 1 trace.host) (first_host_part (setup_of trace)) → (part.pages ≡ pages_at_first trace.page ++ page_words trace.host) × (part.stores ≡ 0)
all_pages trace given part is =
    let f = first_row trace.host given.can.lawful.host.begins in
    let first : HostPart = first_host_part (setup_of trace) in
    let rows_are : part ≡ part_after_rows f.rows first = is ∙ ap (λ (l : List HostRow). part_after_rows (drop 1 l) first) f.is in (
      ap (λ (p : HostPart). p.pages) rows_are ∙ (pages_after f.rows first ∙ ap (λ (l : List HostRow). pages_at_first trace.page ++ page_words l) (sym f.is)),
      ap (λ (p : HostPart). p.stores) rows_are ∙ stores_after f.rows first refl,
    )

pub host_is_done : (trace : Trace) → IsGiven trace → HostDone trace (part_after_rows (drop 1 trace.host) (first_host_part (setup_of trace)))
host_is_done trace given =
    let lawful = given.can.lawful in
    let f = first_row trace.host lawful.host.begins in
    let first : HostPart = first_host_part (setup_of trace) in
    let dropped : drop 1 trace.host ≡ f.rows = ap (drop 1) f.is in
    let clocks : length trace.clock ≡ 1 + length (clock_numbers f.rows) =
    sym (length-range_with_len 1 (length trace.clock)) ∙ (ap (λ (l : List ℕ). length l) (sym lawful.host.numbered) ∙ (ap (λ (l : List HostRow). length (clock_numbers l)) f.is ∙ clock_more f.rows)) in
    let rows = rows_after f.rows first in
    subst (λ (l : List HostRow). HostDone trace (part_after_rows l first)) (sym dropped)
    (pages_by trace trace.page f.rows (part_after_rows f.rows first) refl f.is
    (All-tail (IsRowOf trace.page) (Clock 1) f.rows (subst (ArePageRows trace.page) f.is given.can.rows))
    (omega (arith, rows, clocks)) (pages_after f.rows first))
