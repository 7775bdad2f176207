-- The marker of the last page among the first rows is that of the page with their number.
use Rattle.std.proofs.Common.{◌≡◌, ℕ, zero, suc, List, [], ◌∷◌, length, take, Option, Some, None, refl, ap, sym, ◌∙◌, arith}
use Rattle.std.specs.Prelude.{slice_index, slice_index_or}
use Rattle.clock_gate.specs.declared.trace.HostRow.{HostRow}
use Rattle.clock_gate.specs.declared.trace.HostRow.TheVariants.{Clock, Page, Disrupt}
use Rattle.clock_gate.specs.declared.trace.Trace.{Trace}
use Rattle.vmclock_page.specs.Rows.{ArePageRows}
use Rattle.abstract_run.specs.HostRun.{page_rows, pages_at, marker_of, marker_by, marker_at}
use Rattle.promise_judge.specs.Markers.{start_marker, marker_after}
use Rattle.promise_judge.specs.Containment as judge

page_by : (words : List ℕ) (rows : List HostRow) (done : ℕ) → marker_after (Some (slice_index words 2)) (take done rows)
    ≡ Some (slice_index (slice_index_or (words ∷ page_rows rows) (length (page_rows (take done rows))) []) 2)
page_by words rows zero = refl
page_by words [] (suc done) = refl
page_by words (Clock number ∷ rows) (suc done) = page_by words rows done
page_by words (Page next ∷ rows) (suc done) = page_by next rows done
page_by words (Disrupt ∷ rows) (suc done) = page_by words rows done

later_rows : (row : HostRow) (rows : List HostRow) → ArePageRows None (row ∷ rows) → ArePageRows None rows
later_rows row rows are k d low = are (suc k) d (omega (arith, low))

none_by : (rows : List HostRow) (done : ℕ) → ArePageRows None rows → marker_after None (take done rows) ≡ None
none_by rows zero are = refl
none_by [] (suc done) are = refl
none_by (Clock number ∷ rows) (suc done) are = none_by rows done (later_rows (Clock number) rows are)
none_by (Page next ∷ rows) (suc done) are = absurd (are 0 Disrupt (omega arith))
none_by (Disrupt ∷ rows) (suc done) are = none_by rows done (later_rows Disrupt rows are)

abbrev judged_marker : Option (List ℕ) → List HostRow → ℕ → Option ℕ
judged_marker None rows done = None
judged_marker (Some page) rows done = Some (marker_of (Some page) rows (pages_at rows done))

marker_is : (page : Option (List ℕ)) (rows : List HostRow) (done : ℕ) → ArePageRows page rows → marker_after (start_marker page) (take done rows) ≡ judged_marker page rows done
marker_is None rows done are = none_by rows done are
marker_is (Some words) rows done are = page_by words rows done

by_page : (trace : Trace) (done : ℕ) (page : Option (List ℕ)) → trace.page ≡ page → judged_marker page trace.host done ≡ marker_by trace done page
by_page trace done None same = refl
by_page trace done (Some page) same = ap (λ (p : Option (List ℕ)). Some (marker_of p trace.host (pages_at trace.host done))) (sym same)

-- the marker that the judge finds at a host position
pub judge_marker : (trace : Trace) (done : ℕ) → ArePageRows trace.page trace.host → judge.marker_at trace done ≡ marker_at trace done
judge_marker trace done are = marker_is trace.page trace.host done are ∙ by_page trace done trace.page refl
