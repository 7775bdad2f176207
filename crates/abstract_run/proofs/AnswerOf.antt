-- A call's answer with an interval is that of the publication at its position: one step of a call.
use Rattle.std.proofs.Common.{◌≡◌, ℕ, ◌+◌, ◌-◌, ◌≤◌, ◌<◌, Bool, true, false, List, length, Option, Some, None, is_some, Result, Ok, Err, refl, ap, sym, ◌∙◌, subst, arith, inl, inr}
use Rattle.std.specs.Prelude.{◌==◌, ◌||◌, not, nat_lt, nat_le, if◌then◌else◌}
use Rattle.std.proofs.lemmas.Bool.{cases_eq}
use Rattle.std.proofs.lemmas.Bool.Decides.{nat_tests}
use Rattle.generation_word.specs.Layout.{period_of}
use Rattle.clock_gate.specs.declared.trace.Trace.{Trace}
use Rattle.clock_gate.specs.ClockRow.{row_at}
use Rattle.vmclock_page.specs.Host.{count_of}
use Rattle.segment_layout.specs.Record.{RecordFields}
use Rattle.segment_run.specs.SegmentRun.{SegmentRun, header_shown, number_at, number_shown, published_at}
use Rattle.interval_now.specs.declared.answers.Interval.{Interval}
use Rattle.interval_now.specs.declared.answers.Causality.{Causality}
use Rattle.interval_now.specs.declared.answers.Timed.{Timed}
use Rattle.interval_now.specs.declared.answers.Answer.{Answer}
use Rattle.interval_now.specs.declared.answers.Answer.TheVariants as answers
use Rattle.interval_now.specs.Interval.{interval_of}
use Rattle.abstract_run.specs.declared.event.Trail.{Trail}
use Rattle.abstract_run.specs.HostRun.{HostRun, PageShown, clocks_at, pages_at, page_shown, marker_of, sequence_of}
use Rattle.abstract_run.specs.PageReading.{PageTry, PageReading, PageAfter, Looks, Saw, Missed, page_try_fails, page_load_by, page_last_load, page_load, is_marker_next}
use Rattle.abstract_run.specs.DaemonRun.{marked_by}
use Rattle.abstract_run.specs.ClientRun as run_client
use Rattle.abstract_run.specs.ClientRun.{SegmentTry, SegmentReading, SegmentAfter, Reads, IsWhole, Unpublished, AllFailed, segment_try_fails, segment_load, segment_load_by, segment_last_load, WholeRead, Clocked, CallStage, Reading, Clocking, Paging, CallAfter, Goes, Answers}
use Rattle.abstract_run.specs.HostRun.{marker_by, sequence_by}
use Rattle.abstract_run.proofs.SegmentReads.{begun_try, longer_try, whole_read}

-- ---- what is said of an answer

-- the record that a call read gave it its interval, at its clock row and with the page's marker; with fewer publications inside its
-- read than a period it is the one at its position
pub record HasRead (trace : Trace) (segment : SegmentRun) (time : Timed) (trail : Trail) (rec : RecordFields) : Type 0 where
  pub interval : interval_of rec (row_at trace.clock time.row).mono (row_at trace.clock time.row).real (marker_by trace trail.mark_at trace.page) ≡ Ok time.interval
  pub whole : trail.inside < period_of segment.layout → rec ≡ (published_at segment trail.position).rec

pub record IsTimeOf (trace : Trace) (segment : SegmentRun) (time : Timed) (trail : Trail) : Type 0 where
  -- a record stands in the history at that position, and no fewer publications than that and those inside the read have ended
  pub known : segment.base < trail.position
  pub before : trail.position + trail.inside ≤ segment.position
  -- the clock is loaded before the page's marker
  pub order : trail.clock_at ≤ trail.mark_at
  pub row : time.row ≡ clocks_at trace.host trail.clock_at
  pub sequence : time.sequence ≡ sequence_by trace trail.mark_at trace.page
  pub generation : time.generation ≡ number_at segment trail.position
  pub read : (rec : RecordFields) × HasRead trace segment time trail rec

-- an answer has a trail where it has an interval, and nowhere else
abbrev pub IsAnswer : Trace → SegmentRun → Answer → Option Trail → Type 0
IsAnswer trace segment (answers.Time time) (Some trail) = IsTimeOf trace segment time trail
IsAnswer trace segment (answers.Time time) None = ⊥
IsAnswer trace segment other (Some trail) = ⊥
IsAnswer trace segment other None = Unit {0}

-- ---- a read of the segment

-- a record that was read is that of the publication at its position
pub record IsReadOf (segment : SegmentRun) (read : WholeRead) : Type 0 where
  pub known : segment.base < read.position
  pub before : read.position + read.inside ≤ segment.position
  pub generation : read.generation ≡ number_at segment read.position
  pub whole : read.inside < period_of segment.layout → read.rec ≡ (published_at segment read.position).rec

abbrev IsReadAfter : SegmentRun → SegmentAfter → Type 0
IsReadAfter segment (Reads reading) = Unit {0}
IsReadAfter segment (IsWhole read) = IsReadOf segment read
IsReadAfter segment Unpublished = Unit {0}
IsReadAfter segment (AllFailed first last) = Unit {0}

-- a try in hand began where a record is known
abbrev pub TryFits : SegmentRun → Option SegmentTry → Type 0
TryFits segment None = Unit {0}
TryFits segment (Some try) = (segment.base < try.from) × (try.from ≤ segment.position)

whole_of : (segment : SegmentRun) (try : SegmentTry) → segment.base < try.from → try.from ≤ segment.position → IsReadOf segment (whole_read segment try)
whole_of segment try known before =
    record {
      known = known;
      before = omega (arith, before);
      generation = refl;
      whole = λ few. (let test : nat_lt (segment.position - try.from) (period_of segment.layout) ≡ true = grind (arith, nat_tests) in rw test refl);
    }

fails_by : (segment : SegmentRun) (left first last : ℕ) (few : Bool) → IsReadAfter segment (if few then AllFailed first last else Reads (record { left = left; try = None }))
fails_by segment left first last true = tt
fails_by segment left first last false = tt

fails_of : (segment : SegmentRun) (reading : SegmentReading) (first last : ℕ) → IsReadAfter segment (segment_try_fails reading first last)
fails_of segment reading first last = fails_by segment (reading.left - 1) first last (nat_le reading.left 1)

first_by : (segment : SegmentRun) (reading : SegmentReading) (writes none : Bool) → IsReadAfter segment
    (if writes then segment_try_fails reading (number_shown segment) (number_shown segment) else if none then Unpublished else Reads (record reading { try = Some (begun_try segment) }))
first_by segment reading true none = fails_of segment reading (number_shown segment) (number_shown segment)
first_by segment reading false true = tt
first_by segment reading false false = tt

last_by : (segment : SegmentRun) (reading : SegmentReading) (try : SegmentTry) (fails : Bool) → segment.base < try.from → try.from ≤ segment.position
    → IsReadAfter segment (if fails then segment_try_fails reading (number_at segment try.from) (number_shown segment) else IsWhole (whole_read segment try))
last_by segment reading try true known before = fails_of segment reading (number_at segment try.from) (number_shown segment)
last_by segment reading try false known before = whole_of segment try known before

try_by : (segment : SegmentRun) (reading : SegmentReading) (try : SegmentTry) (below : Bool) → segment.base < try.from → try.from ≤ segment.position
    → IsReadAfter segment (if below then Reads (record reading { try = Some (longer_try segment try) }) else segment_last_load segment reading try)
try_by segment reading try true known before = tt
try_by segment reading try false known before = last_by segment reading try (segment.is_writing || not (header_shown segment == try.header)) known before

read_of : (segment : SegmentRun) (reading : SegmentReading) (before : Option SegmentTry) → TryFits segment before → IsReadAfter segment (segment_load_by segment reading before)
read_of segment reading None fits = first_by segment reading segment.is_writing (segment.position == 0)
read_of segment reading (Some try) fits = try_by segment reading try (nat_lt (length try.seen) 8) fits.0 fits.1

-- ---- a read of the page

-- where a load leaves a read of the page: the marker of the page that a try ends with was loaded in it
abbrev IsLookFrom : (before after : Option PageTry) → Type 0
IsLookFrom before None = Unit {0}
IsLookFrom None (Some try) = try.has_marker ≡ false
IsLookFrom (Some before) (Some try) = (before.has_marker ≡ false) × (try.page ≡ before.page)

abbrev IsSawFrom : PageShown → Option PageTry → (page : ℕ) → Type 0
IsSawFrom shown None page = ⊥
IsSawFrom shown (Some before) page = (before.has_marker ≡ true) × ((page ≡ before.page) × (shown.page ≡ before.page))

abbrev IsPageFrom : PageShown → Option PageTry → PageAfter → Type 0
IsPageFrom shown before (Looks reading) = IsLookFrom before reading.try
IsPageFrom shown before (Saw page) = IsSawFrom shown before page
IsPageFrom shown before (Missed first last) = Unit {0}

missed_by : (shown : PageShown) (before : Option PageTry) (left first last : ℕ) (few : Bool) → IsPageFrom shown before (if few then Missed first last else Looks (record { left = left; try = None }))
missed_by shown before left first last true = tt
missed_by shown before left first last false = tt

missed_from : (shown : PageShown) (before : Option PageTry) (reading : PageReading) (first last : ℕ) → IsPageFrom shown before (page_try_fails reading first last)
missed_from shown before reading first last = missed_by shown before (reading.left - 1) first last (nat_le reading.left 1)

page_first_by : (begins : ℕ) (shown : PageShown) (reading : PageReading) (writes : Bool) → IsPageFrom shown None
    (if writes then page_try_fails reading (sequence_of begins shown) (sequence_of begins shown) else Looks (record reading { try = Some (record { page = shown.page; has_marker = false }) }))
page_first_by begins shown reading true = missed_from shown None reading (sequence_of begins shown) (sequence_of begins shown)
page_first_by begins shown reading false = refl

page_last_by : (begins : ℕ) (shown : PageShown) (reading : PageReading) (try : PageTry) (writes other : Bool) → try.has_marker ≡ true → (other ≡ false → shown.page ≡ try.page)
    → IsPageFrom shown (Some try) (if writes || other then page_try_fails reading (sequence_of begins (record { page = try.page; is_writing = false })) (sequence_of begins shown) else Saw try.page)
page_last_by begins shown reading try true other marked same = missed_from shown (Some try) reading (sequence_of begins (record { page = try.page; is_writing = false })) (sequence_of begins shown)
page_last_by begins shown reading try false true marked same = missed_from shown (Some try) reading (sequence_of begins (record { page = try.page; is_writing = false })) (sequence_of begins shown)
page_last_by begins shown reading try false false marked same = (marked, (refl, same refl))

same_page : (now from : ℕ) → not (now == from) ≡ false → now ≡ from
same_page now from test =
    elim (cases_eq now from) [
      | inl same ↦ same
      | inr differs ↦ (let other : (now == from) ≡ false = grind (arith, nat_tests, differs) in absurd (cc (sym (ap not other) ∙ test)))
    ]

page_try_by : (begins : ℕ) (shown : PageShown) (reading : PageReading) (try : PageTry) (marked : Bool) → try.has_marker ≡ marked
    → IsPageFrom shown (Some try) (if marked then page_last_load begins shown reading try else Looks (record reading { try = Some (record try { has_marker = true }) }))
page_try_by begins shown reading try true marked =
    page_last_by begins shown reading try shown.is_writing (not (shown.page == try.page)) marked (λ test. same_page shown.page try.page test)
page_try_by begins shown reading try false marked = (marked, refl)

page_from : (begins : ℕ) (shown : PageShown) (reading : PageReading) (before : Option PageTry) → IsPageFrom shown before (page_load_by begins shown reading before)
page_from begins shown reading None = page_first_by begins shown reading shown.is_writing
page_from begins shown reading (Some try) = page_try_by begins shown reading try try.has_marker refl

-- ---- a call

-- the marker of a page try was loaded when its page had come
abbrev IsTryMarked : Trace → (mark_at : ℕ) → Option PageTry → Type 0
IsTryMarked trace mark_at None = Unit {0}
IsTryMarked trace mark_at (Some try) = try.has_marker ≡ true → try.page ≤ pages_at trace.host mark_at

pub record IsClockedOf (trace : Trace) (host : HostRun) (segment : SegmentRun) (clocked : Clocked) (mark_at : ℕ) : Type 0 where
  pub read : IsReadOf segment clocked.read
  pub row : clocked.row ≡ clocks_at trace.host clocked.clock_at
  pub order : clocked.clock_at ≤ mark_at
  pub marked : mark_at ≤ host.done
  pub pages : pages_at trace.host mark_at ≤ pages_at trace.host host.done

-- what a call in hand has read
abbrev pub StandsIn : Trace → HostRun → SegmentRun → CallStage → Type 0
StandsIn trace host segment (Reading reading) = Unit {0}
StandsIn trace host segment (Clocking read) = IsReadOf segment read
StandsIn trace host segment (Paging clocked reading mark_at) = IsClockedOf trace host segment clocked mark_at × IsTryMarked trace mark_at reading.try

abbrev pub PageFits : Trace → HostRun → Option PageTry → Type 0
PageFits trace host None = Unit {0}
PageFits trace host (Some try) = try.page ≤ pages_at trace.host host.done

-- what is known of its try in hand
abbrev pub FitsIn : Trace → HostRun → SegmentRun → CallStage → Type 0
FitsIn trace host segment (Reading reading) = TryFits segment reading.try
FitsIn trace host segment (Clocking read) = Unit {0}
FitsIn trace host segment (Paging clocked reading mark_at) = (is_some trace.page ≡ true) × PageFits trace host reading.try

abbrev pub LeavesOf : Trace → HostRun → SegmentRun → CallAfter → Type 0
LeavesOf trace host segment (Goes stage) = StandsIn trace host segment stage
LeavesOf trace host segment (Answers answered) = IsAnswer trace segment answered.answer answered.trail

module _ (trace : Trace) (host : HostRun) (segment : SegmentRun) where
  reading_of : (tries : ℕ) (after : SegmentAfter) → IsReadAfter segment after → LeavesOf trace host segment (run_client.after_segment tries after)
  reading_of tries (Reads reading) is = tt
  reading_of tries (IsWhole read) is = is
  reading_of tries Unpublished is = tt
  reading_of tries (AllFailed first last) is = tt

  timed_of : (clocked : Clocked) (marker : Option ℕ) (sequence mark_at : ℕ) (found : Result Interval Causality)
      → interval_of clocked.read.rec (row_at trace.clock clocked.row).mono (row_at trace.clock clocked.row).real marker ≡ found → IsClockedOf trace host segment clocked mark_at
      → marker ≡ marker_by trace mark_at trace.page → sequence ≡ sequence_by trace mark_at trace.page → LeavesOf trace host segment (run_client.timed clocked sequence mark_at found)
  timed_of clocked marker sequence mark_at (Ok interval) comes is same_marker same_sequence =
      let mono = (row_at trace.clock clocked.row).mono in
      let real = (row_at trace.clock clocked.row).real in
      record {
        known = is.read.known;
        before = is.read.before;
        order = is.order;
        row = is.row;
        sequence = same_sequence;
        generation = is.read.generation;
        read = (clocked.read.rec, record { interval = ap (interval_of clocked.read.rec mono real) (sym same_marker) ∙ comes; whole = is.read.whole });
      }
  timed_of clocked marker sequence mark_at (Err causality) comes is same_marker same_sequence = tt

  clock_of : (tries : ℕ) (clocked : Clocked) (page : Option (List ℕ)) → trace.page ≡ page → IsClockedOf trace host segment clocked clocked.clock_at → LeavesOf trace host segment (run_client.clock_by trace tries clocked page)
  clock_of tries clocked None same is =
      timed_of clocked None 0 clocked.clock_at (interval_of clocked.read.rec (row_at trace.clock clocked.row).mono (row_at trace.clock clocked.row).real None) refl is
      (sym (ap (marker_by trace clocked.clock_at) same)) (sym (ap (sequence_by trace clocked.clock_at) same))
  clock_of tries clocked (Some page) same is = (is, tt)

  -- a load of a marker is noted
  noted_of : (clocked : Clocked) (mark_at : ℕ) (is_marker : Bool) → IsClockedOf trace host segment clocked mark_at → IsClockedOf trace host segment clocked (marked_by is_marker host.done mark_at)
  noted_of clocked mark_at true is =
      record { read = is.read; row = is.row; order = (let order = is.order in let marked = is.marked in omega (arith, order, marked)); marked = omega arith; pages = omega arith }
  noted_of clocked mark_at false is = is

  look_marked : (before after : Option PageTry) (mark_at : ℕ) → PageFits trace host before → IsLookFrom before after → IsTryMarked trace (marked_by (is_marker_next before) host.done mark_at) after
  look_marked before None mark_at fits from = tt
  look_marked None (Some try) mark_at fits from = λ marked. absurd (cc (sym from ∙ marked))
  look_marked (Some before) (Some try) mark_at fits from =
      let next : is_marker_next (Some before) ≡ true = ap not from.0 in
      let same = from.1 in
      λ marked. subst (λ (is_marker : Bool). try.page ≤ pages_at trace.host (marked_by is_marker host.done mark_at)) (sym next) (omega (arith, same, fits))

  page_known : (page : Option (List ℕ)) → trace.page ≡ page → is_some page ≡ true → (words : List ℕ) × (trace.page ≡ Some words)
  page_known None same has = absurd (cc has)
  page_known (Some page) same has = (page, same)

  saw_of : (clocked : Clocked) (page mark_at : ℕ) → is_some trace.page ≡ true → page ≡ pages_at trace.host mark_at → IsClockedOf trace host segment clocked mark_at
      → LeavesOf trace host segment (run_client.after_page trace clocked mark_at (Saw page))
  saw_of clocked page mark_at has same is =
      let known = page_known trace.page refl has in
      timed_of clocked (Some (marker_of trace.page trace.host page)) (sequence_of (count_of trace.page) (record { page = page; is_writing = false })) mark_at
      (interval_of clocked.read.rec (row_at trace.clock clocked.row).mono (row_at trace.clock clocked.row).real (Some (marker_of trace.page trace.host page))) refl is
      (ap (λ (g : ℕ). Some (marker_of trace.page trace.host g)) same ∙ sym (ap (marker_by trace mark_at) known.1))
      (ap (λ (g : ℕ). sequence_of (count_of trace.page) (record { page = g; is_writing = false })) same ∙ sym (ap (sequence_by trace mark_at) known.1))

  page_of : (clocked : Clocked) (before : Option PageTry) (mark_at : ℕ) (after : PageAfter) → is_some trace.page ≡ true → PageFits trace host before → IsClockedOf trace host segment clocked mark_at
      → IsTryMarked trace mark_at before → IsPageFrom (page_shown trace.host host) before after
      → LeavesOf trace host segment (run_client.after_page trace clocked (marked_by (is_marker_next before) host.done mark_at) after)
  page_of clocked before mark_at (Looks reading) has fits is marked from = (noted_of clocked mark_at (is_marker_next before) is, look_marked before reading.try mark_at fits from)
  page_of clocked None mark_at (Saw page) has fits is marked from = absurd from
  page_of clocked (Some before) mark_at (Saw page) has fits is marked from =
      let next : is_marker_next (Some before) ≡ false = ap not from.0 in
      let low = marked from.0 in
      let high = is.pages in
      let same = from.1.0 in
      let shown = from.1.1 in
      subst (λ (is_marker : Bool). LeavesOf trace host segment (run_client.after_page trace clocked (marked_by is_marker host.done mark_at) (Saw page))) (sym next)
      (saw_of clocked page mark_at has (omega (arith, low, high, same, shown)) is)
  page_of clocked before mark_at (Missed first last) has fits is marked from = tt

  -- one step of a call
  pub step_of : (tries : ℕ) (stage : CallStage) → FitsIn trace host segment stage → StandsIn trace host segment stage → LeavesOf trace host segment (run_client.call_step trace host segment tries stage)
  step_of tries (Reading reading) fits stands = reading_of tries (segment_load segment reading) (read_of segment reading reading.try fits)
  step_of tries (Clocking read) fits stands =
      clock_of tries (record { read = read; row = clocks_at trace.host host.done; clock_at = host.done }) trace.page refl
      (record { read = stands; row = refl; order = omega arith; marked = omega arith; pages = omega arith })
  step_of tries (Paging clocked reading mark_at) fits stands =
      page_of clocked reading.try mark_at (page_load (count_of trace.page) (page_shown trace.host host) reading) fits.0 fits.1 stands.0 stands.1
      (page_from (count_of trace.page) (page_shown trace.host host) reading reading.try)
