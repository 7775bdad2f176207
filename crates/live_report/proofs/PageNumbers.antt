-- What the tries of the page tell of the trace's pages.
use Rattle.std.proofs.Common.{◌≡◌, ◌≢◌, ℕ, ◌*◌, ◌/◌, ◌%◌, ◌^◌, ◌<◌, ◌≤◌, true, List, [], sym, ap, ◌∙◌, arith, inl, inr, Some}
use Rattle.std.specs.Prelude.{◌⊎◌, is_some, slice_index}
use Rattle.clock_gate.specs.declared.trace.Trace.{Trace}
use Rattle.clock_gate.specs.Acts.{Touch}
use Rattle.vmclock_page.specs.Host.{count_of, raised}
use Rattle.vmclock_page.specs.Counting.{page_number_of}
use Rattle.segment_views.specs.Views.{Begins, HostPart, Step}
use Rattle.segment_views.proofs.Lists.{begins_at, begins_length}
use Rattle.lawful_report.specs.Pages.{marker_of_page, last_page, changes_of, page_seen, FailsBetween, PageTriesFail}
use Rattle.live_report.specs.LiveRun.{setup_of}
use Rattle.live_report.proofs.Started.{FewPages}
use Rattle.live_report.proofs.HostDone.{HostDone}
use Rattle.live_report.proofs.PageTries.{PageFails, PageFound}

-- the number of changes at a point of the page
pub changes_told : (trace : Trace) (few : FewPages trace) (point count : ℕ) → point ≤ 2 * last_page trace → count ≡ raised point (count_of trace.page) → (changes_of trace count ≡ point) × (count < 2 ^ 32) × (count % 2 ≡ point % 2)
changes_told trace few point count low is =
    let small = few.small in
    let most = few.few in
    let even = few.even in
    (omega (arith, small, most, low, is), omega (arith, is), omega (arith, is, even, small, most, low))

-- every try failed
pub busy_told : (trace : Trace) (few : FewPages trace) (from to first last page : ℕ) → is_some trace.page ≡ true → PageFails (setup_of trace) from to first last → 2 * page ≤ from → to ≤ 2 * last_page trace
    → PageTriesFail trace page first last × (2 * page_seen trace last ≤ to)
busy_told trace few from to first last page support fails before most =
    let low = fails.low in
    let order = fails.order in
    let high = fails.high in
    let one = changes_told trace few fails.one first (omega (arith, order, high, most)) fails.first_is in
    let two = changes_told trace few fails.two last (omega (arith, high, most)) fails.last_is in
    let at_one = one.0 in
    let at_two = two.0 in (
      record {
        support = support;
        first_fits = one.1;
        last_fits = two.1;
        not_before = omega (arith, at_one, before, low);
        first_done = omega (arith, at_one, order, high, most);
        last_done = omega (arith, at_two, high, most);
        fails = by fails.fails;
      },
      omega (arith, at_two, high),
    )
  where
    by : ((first % 2 ≡ 1) × (fails.two ≡ fails.one)) ⊎ ((first % 2 ≡ 0) × (last ≢ first)) → FailsBetween (changes_of trace first) (changes_of trace last)
    by (inl odd) =
        let order = fails.order in
        let high = fails.high in
        let one = changes_told trace few fails.one first (omega (arith, order, high, most)) fails.first_is in
        let two = changes_told trace few fails.two last (omega (arith, high, most)) fails.last_is in
        let at_one = one.0 in
        let parity = one.2 in
        let is_odd = odd.0 in
        inl (omega (arith, at_one, parity, is_odd), two.0 ∙ (odd.1 ∙ sym one.0))
    by (inr even) =
        let order = fails.order in
        let high = fails.high in
        let one = changes_told trace few fails.one first (omega (arith, order, high, most)) fails.first_is in
        let two = changes_told trace few fails.two last (omega (arith, high, most)) fails.last_is in
        let at_one = one.0 in
        let at_two = two.0 in
        let parity = one.2 in
        let is_even = even.0 in
        let other : fails.two ≢ fails.one = λ e. even.1 (fails.last_is ∙ (ap (λ (n : ℕ). raised n (count_of trace.page)) e ∙ sym fails.first_is)) in
        inr (omega (arith, at_one, parity, is_even), omega (arith, at_one, at_two, order, other))

-- a marker was found: that of the page with this number
pub record MarkerTold (trace : Trace) (from to marker sequence : ℕ) : Type 0 where
  pub low : from ≤ 2 * page_number_of (count_of trace.page) sequence
  pub high : 2 * page_number_of (count_of trace.page) sequence ≤ to
  pub is : marker_of_page trace (page_number_of (count_of trace.page) sequence) ≡ Some marker

pub number_told : (trace : Trace) (few : FewPages trace) (point sequence : ℕ) → point ≤ 2 * last_page trace → sequence ≡ raised point (count_of trace.page) → page_number_of (count_of trace.page) sequence ≡ point / 2
number_told trace few point sequence low is =
    let told = changes_told trace few point sequence low is in
    ap (λ (n : ℕ). n / 2) told.0

pub found_told : (trace : Trace) (few : FewPages trace) (host : HostPart) (done : HostDone trace host) (pages : List (List ℕ)) (from to : ℕ) (steps : List Step) (front middle : List Touch) (marker sequence : ℕ) → Begins pages host.pages → to ≤ 2 * last_page trace
    → PageFound (setup_of trace) pages from to steps front middle marker sequence → MarkerTold trace from to marker sequence
found_told trace few host done pages from to steps front middle marker sequence begins most found =
    let low = found.low in
    let high = found.high in
    let even = found.even in
    let number = number_told trace few found.point sequence (omega (arith, high, most)) found.sequence_is in
    let known = found.known in
    let more = begins_length pages host.pages begins in
    record {
      low = omega (arith, number, low, even);
      high = omega (arith, number, high, even);
      is = ap (marker_of_page trace) number
          ∙ (done.marker (found.point / 2) (omega (arith, known, more))
          ∙ ap Some (ap (λ (l : List ℕ). slice_index l 2) (begins_at pages host.pages (found.point / 2) [] begins known) ∙ sym found.marker_is));
    }
