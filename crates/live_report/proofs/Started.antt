-- How a run begins: the segment that the table was given, and the course of its report.
use Rattle.std.proofs.Common.{◌≡◌, ℕ, ◌+◌, ◌-◌, ◌*◌, ◌/◌, ◌%◌, ◌^◌, ◌<◌, ◌≤◌, false, List, [], ◌∷◌, ◌++◌, length, length-append, map, refl, sym, ap, ◌∙◌, subst, arith, Option, Some, None, Ok}
use Rattle.std.specs.Prelude.{slice_index_or, IfSome, IsOk, Result, Err}
use Rattle.std.proofs.lemmas.List.{get_or_append_left}
use Rattle.clock_gate.specs.declared.trace.HostRow.{HostRow}
use Rattle.clock_gate.specs.declared.trace.HostRow.TheVariants.{Clock, Page, Disrupt}
use Rattle.clock_gate.specs.declared.trace.Trace.{Trace}
use Rattle.vmclock_page.specs.Host.{count_of}
use Rattle.vmclock_page.specs.Counting.{page_number_of}
use Rattle.vmclock_page.specs.Words.{AreWords}
use Rattle.vmclock_page.specs.Rows.{IsStartPage}
use Rattle.vmclock_page.proofs.Accepted.{starts_even}
use Rattle.segment_layout.specs.declared.image_fault.ImageFault.{ImageFault}
use Rattle.segment_layout.specs.declared.publication.Publication.{Publication}
use Rattle.segment_layout.specs.declared.start.Start.{Start}
use Rattle.segment_layout.specs.declared.start.Start.TheVariants.{Fresh, Kept, Torn}
use Rattle.segment_layout.specs.Image.{image_of}
use Rattle.segment_layout.specs.Words.{fields_of_words}
use Rattle.segment_layout.specs.Record.{RecordFields}
use Rattle.segment_layout.proofs.Admitted.{image_of-start}
use Rattle.segment_run.specs.SegmentRun.{SegmentRun, image_publication, published_at, segment_by}
use Rattle.segment_run.specs.ShowsSegment.{IsSegment}
use Rattle.segment_run.proofs.SegmentStart.{Holds, admitted_holds, segment_start_shows}
use Rattle.abstract_run.specs.Given.{IsGiven}
use Rattle.segment_views.specs.Views.{first_segment, point_of, base_of}
use Rattle.lawful_report.specs.declared.entry.Entry.{Entry}
use Rattle.lawful_report.specs.Pages.{row_markers, last_page}
use Rattle.lawful_report.specs.Course.{Course, first_entry, course_by, course_start}
use Rattle.live_report.specs.LiveRun.{setup_of}

-- ---- the page's count

-- the sequence count of the start page is even and has 32 bits, and there are few pages
pub record FewPages (trace : Trace) : Type 0 where
  pub even : count_of trace.page % 2 ≡ 0
  pub small : count_of trace.page < 2 ^ 32
  pub few : last_page trace ≤ 300000

count_by : (page : Option (List ℕ)) → IfSome page AreWords → IsStartPage page → (count_of page % 2 ≡ 0) × (count_of page < 2 ^ 32)
count_by None wide starts = (refl, omega arith)
count_by (Some page) wide starts = let s = starts_even page wide starts in (s.even, s.small)

markers_few : (rows : List HostRow) → length (row_markers rows) ≤ length rows
markers_few [] = omega arith
markers_few (Clock number ∷ rows) = let rest = markers_few rows in omega (arith, rest)
markers_few (Page words ∷ rows) = let rest = markers_few rows in omega (arith, rest)
markers_few (Disrupt ∷ rows) = let rest = markers_few rows in omega (arith, rest)

pub few_pages : (trace : Trace) → IsGiven trace → FewPages trace
few_pages trace given =
    let count = count_by trace.page given.wide given.can.page in
    let few = markers_few trace.host in
    let most = given.can.lawful.host_few in
    record { even = count.0; small = count.1; few = omega (arith, few, most) }

-- ---- the entries

-- a publication as an entry of the report
abbrev pub entry_told : Trace → Publication → Entry
entry_told trace e = record { rec = e.rec; replied = e.replied; page = page_number_of (count_of trace.page) e.sequence; base = e.base }

-- what the segment and the course have in common before the first call
pub record Started (trace : Trace) : Type 0 where
  pub is : IsSegment (first_segment (setup_of trace))
  pub layout : (first_segment (setup_of trace)).layout ≡ trace.layout
  pub image : (first_segment (setup_of trace)).image ≡ trace.image
  pub unheaded : (first_segment (setup_of trace)).is_headed ≡ false
  pub before : (course_start trace).before ≡ base_of (setup_of trace)
  pub point : (course_start trace).point ≡ point_of (first_segment (setup_of trace))
  pub entries : (course_start trace).entries ≡ map (entry_told trace) (first_segment (setup_of trace)).history
  pub last : (first_segment (setup_of trace)).base < (first_segment (setup_of trace)).position
      → entry_told trace (published_at (first_segment (setup_of trace)) (first_segment (setup_of trace)).position) ≡ first_entry (published_at (first_segment (setup_of trace)) (first_segment (setup_of trace)).position).rec
  pub no_base : (published_at (first_segment (setup_of trace)) (first_segment (setup_of trace)).position).base ≡ 0

-- the image's own publication is the first entry
image_entry : (trace : Trace) (generation : ℕ) (rec : RecordFields) → FewPages trace → entry_told trace (image_publication (count_of trace.page) generation rec) ≡ first_entry rec
image_entry trace generation rec few =
    let small = few.small in
    let none : page_number_of (count_of trace.page) (count_of trace.page) ≡ 0 = omega (arith, small) in
    λ j. record { rec = rec; replied = 1; page = none j; base = 0 }

abbrev StartsAs : Trace → SegmentRun → Course → Type 0
StartsAs trace segment course =
    (segment.layout ≡ trace.layout) × (segment.image ≡ trace.image) × (segment.is_headed ≡ false) × (course.before ≡ segment.base) × (course.point ≡ point_of segment) × (course.entries ≡ map (entry_told trace) segment.history)
    × (segment.base < segment.position → entry_told trace (published_at segment segment.position) ≡ first_entry (published_at segment segment.position).rec) × ((published_at segment segment.position).base ≡ 0)

starts_as : (trace : Trace) (start : Start) → FewPages trace → Holds trace.layout trace.image start → StartsAs trace (segment_by trace.layout trace.image (count_of trace.page) start) (course_by (Ok start))
starts_as trace Fresh few holds = (refl, refl, refl, refl, refl, refl, λ above. absurd (omega (arith, above)), refl)
starts_as trace (Torn generation) few holds =
    let odd = holds.1.0 in
    let index : generation / 2 - generation / 2 - 1 ≡ 0 = omega arith in
    (refl, refl, refl, refl, (let at : generation ≡ 2 * (generation / 2) + 1 = omega (arith, odd) in at), refl, λ above. absurd (omega (arith, above)), refl)
starts_as trace (Kept generation rec) few holds =
    let even = holds.1.0 in
    let some = holds.1.1.0 in
    let index : generation / 2 - (generation / 2 - 1) - 1 ≡ 0 = omega (arith, even, some) in
    let own : Publication = image_publication (count_of trace.page) generation rec in
    let newest : published_at (segment_by trace.layout trace.image (count_of trace.page) (Kept generation rec)) (generation / 2) ≡ own =
    ap (λ (n : ℕ). slice_index_or (own ∷ []) n (image_publication 0 0 (fields_of_words []))) index in (
      refl,
      refl,
      refl,
      refl,
      (let at : generation ≡ 2 * (generation / 2) + 0 = omega (arith, even) in at),
      ap (λ (e : Entry). e ∷ []) (sym (image_entry trace generation rec few)),
      λ above. ap (entry_told trace) newest ∙ (image_entry trace generation rec few ∙ ap (λ (e : Publication). first_entry e.rec) (sym newest)),
      ap (λ (e : Publication). e.base) newest,
    )

admitted_by : (trace : Trace) (found : Result Start ImageFault) → image_of trace.layout trace.image ≡ found → IsOk found → (start : Start) × (image_of trace.layout trace.image ≡ Ok start)
admitted_by trace (Ok start) is ok = (start, is)
admitted_by trace (Err fault) is ok = absurd (cc ok)

zeros : List ℕ
zeros = 0 ∷ 0 ∷ 0 ∷ 0 ∷ 0 ∷ 0 ∷ 0 ∷ 0 ∷ 0 ∷ 0 ∷ 0 ∷ 0 ∷ 0 ∷ 0 ∷ []

pub started : (trace : Trace) → IsGiven trace → Started trace
unfolding zeros
started trace given =
    let few = few_pages trace given in
    let a = admitted_by trace (image_of trace.layout trace.image) refl given.can.image in
    let began = image_of-start trace.layout trace.image a.0 a.1 in
    let holds = (admitted_holds trace.layout trace.image a.0 given.fits a.1).holds in
    let words : List ℕ = trace.image ++ zeros in
    let shows = segment_start_shows trace.layout trace.image words (count_of trace.page) a.0 given.ten given.fits a.1 (let ten = given.ten in let long = length-append trace.image zeros in omega (arith, ten, long))
    (λ word low. get_or_append_left trace.image zeros 0 word (let ten = given.ten in omega (arith, low, ten))) in
    let facts : StartsAs trace (first_segment (setup_of trace)) (course_start trace) =
    subst (λ (found : Start). StartsAs trace (segment_by trace.layout trace.image (count_of trace.page) found) (course_start trace)) (sym began)
    (subst (λ (r : Result Start ImageFault). StartsAs trace (segment_by trace.layout trace.image (count_of trace.page) a.0) (course_by r)) (sym a.1) (starts_as trace a.0 few holds)) in
    record { is = shows.is; layout = facts.0; image = facts.1; unheaded = facts.2; before = facts.3; point = facts.4; entries = facts.5; last = facts.6; no_base = facts.7 }
