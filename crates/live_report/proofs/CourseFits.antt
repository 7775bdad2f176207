-- Where the daemon has come, and how far its lines have come.
use Rattle.std.proofs.Common.{◌≡◌, ℕ, zero, suc, ◌+◌, ◌-◌, ◌*◌, ◌/◌, ◌%◌, ◌<◌, ◌≤◌, Bool, true, false, List, [], ◌∷◌, ◌++◌, length, map, refl, sym, ap, ◌∙◌, subst, arith, inl, inr, Option, Some, None}
use Rattle.std.specs.Prelude.{◌==◌, ◌⊎◌, nat_lt, if◌then◌else◌, slice_get, slice_index_or, is_some}
use Rattle.std.proofs.lemmas.Bool.{cases_lt, eq-eqb, ne_eqb}
use Rattle.std.proofs.lemmas.Bool.Decides.{nat_tests}
use Rattle.clock_gate.specs.declared.trace.Trace.{Trace}
use Rattle.generation_word.specs.declared.layout.Layout.{Layout}
use Rattle.generation_word.specs.declared.layout.Layout.TheVariants.{Two, Three}
use Rattle.generation_word.specs.Header.{word1_of}
use Rattle.segment_layout.specs.declared.publication.Publication.{Publication}
use Rattle.segment_layout.specs.History.{AbstractSegment, start_seen}
use Rattle.segment_layout.specs.Image.{is_old_header}
use Rattle.segment_layout.specs.Record.{RecordFields}
use Rattle.segment_layout.specs.Words.{flag_of}
use Rattle.segment_run.specs.SegmentRun.{SegmentRun, abstract_of, header_shown, published_at, no_publication}
use Rattle.segment_run.specs.SegmentRun as runs
use Rattle.segment_run.proofs.SegmentHeader.{told_three}
use Rattle.segment_views.specs.Views.{Begins, Step, Seen, SeatView, first_segment, point_of, base_of}
use Rattle.segment_views.specs.Steps.{ShowsPoint}
use Rattle.segment_views.specs.Shown.{Climbs, StandsPage, StandsRow, IsSoundCall}
use Rattle.segment_views.proofs.Lists.{flag_most}
use Rattle.segment_rule.proofs.ReadRecord.{to_last}
use Rattle.status_machine.specs.declared.daemon.Daemon.{Daemon}
use Rattle.status_machine.specs.Step.{ShowsPast}
use Rattle.lawful_report.specs.declared.entry.Entry.{Entry}
use Rattle.lawful_report.specs.Points.{segment_at}
use Rattle.lawful_report.specs.Course.{Course, Life, entry_or_none, last_entry, start_found}
use Rattle.live_report.specs.LiveRun.{setup_of}
use Rattle.live_report.specs.DaemonCalls.{DaemonPlace}
use Rattle.live_report.proofs.Lists.{get_map}
use Rattle.live_report.proofs.Started.{entry_told}

-- ---- points

pub half_point : (segment : SegmentRun) → point_of segment / 2 ≡ segment.position
half_point segment = let most = flag_most segment.is_writing in omega (arith, most)

writes_by : (p : ℕ) (b : Bool) → ((2 * p + flag_of b) % 2 == 1) ≡ b
writes_by p true = let odd : (2 * p + 1) % 2 ≡ 1 = omega arith in eq-eqb ((2 * p + 1) % 2) 1 odd
writes_by p false = ne_eqb ((2 * p + 0) % 2) 1 (λ e. absurd (omega (arith, e)))

-- the segment of a point is the one that has it
pub at_point : (segment : SegmentRun) → segment_at (point_of segment) ≡ abstract_of segment
at_point segment = λ j. record { position = half_point segment j; is_writing = writes_by segment.position segment.is_writing j }

-- ---- histories

pub at_the_end : (xs : List Publication) (x : Publication) (k : ℕ) → k ≡ length xs → slice_index_or (xs ++ x ∷ []) k no_publication ≡ x
at_the_end [] x k is = ap (λ (n : ℕ). slice_index_or (x ∷ []) n no_publication) is
at_the_end (y ∷ xs) x zero is = absurd (omega (arith, is))
at_the_end (y ∷ xs) x (suc k) is = at_the_end xs x k (omega (arith, is))

no_list : (xs : List Publication) (k : ℕ) → length xs ≡ 0 → slice_index_or xs k no_publication ≡ no_publication
no_list [] k none = refl
no_list (x ∷ xs) k none = absurd (omega (arith, none))

-- ---- what both know of the segment

-- the segment of the daemon's view, and the course
pub record SegmentFits (trace : Trace) (segment : SegmentRun) (course : Course) : Type 0 where
  pub layout : segment.layout ≡ trace.layout
  pub image : segment.image ≡ trace.image
  pub base : segment.base ≡ base_of (setup_of trace)
  pub before : course.before ≡ base_of (setup_of trace)
  pub known : length segment.history + segment.base ≡ segment.position
  pub calm : segment.is_writing ≡ false → 0 < segment.position → segment.base < segment.position
  pub point : course.point ≡ point_of segment
  pub entries : course.entries ≡ map (entry_told trace) segment.history

module _ (trace : Trace) (segment : SegmentRun) (course : Course) (fits : SegmentFits trace segment course) where
  pub place : course.point / 2 ≡ segment.position
  place = ap (λ (n : ℕ). n / 2) fits.point ∙ half_point segment

  entry_by : (before position : ℕ) (is_after : Bool) → nat_lt before position ≡ is_after → course.before ≡ before → course.point / 2 ≡ position
      → last_entry course ≡ entry_or_none (if is_after then slice_get course.entries (position - before - 1) else None)
  entry_by before position is_after test b p =
      (λ j. entry_or_none (if nat_lt (b j) (p j) then slice_get course.entries (p j - b j - 1) else None)) ∙ ap (λ (t : Bool). entry_or_none (if t then slice_get course.entries (position - before - 1) else None)) test

  -- the entry at the present position is that of the last publication
  pub last_known : segment.base < segment.position → last_entry course ≡ entry_told trace (published_at segment segment.position)
  last_known above =
      let known = fits.known in
      let test : nat_lt segment.base segment.position ≡ true = grind (arith, nat_tests, above) in
      entry_by segment.base segment.position true test (fits.before ∙ sym fits.base) place
      ∙ ap (λ (l : List Entry). entry_or_none (slice_get l (segment.position - segment.base - 1))) fits.entries
      ∙ ap entry_or_none (get_map (entry_told trace) segment.history (segment.position - segment.base - 1) no_publication (omega (arith, known, above)))

  -- and its base number that of the last publication, 0 where there is none
  pub last_base : (last_entry course).base ≡ (published_at segment segment.position).base
  last_base = elim (cases_lt segment.base segment.position) [
    | inl above ↦ ap (λ (e : Entry). e.base) (last_known above)
    | inr past ↦
        let known = fits.known in
        let late = past in
        let test : nat_lt segment.base segment.position ≡ false = grind (arith, nat_tests, late) in
        ap (λ (e : Entry). e.base) (entry_by segment.base segment.position false test (fits.before ∙ sym fits.base) place)
        ∙ sym (ap (λ (e : Publication). e.base) (no_list segment.history (segment.position - segment.base - 1) (omega (arith, known, late))))
  ]

  same_start : (layout : Layout) (s : AbstractSegment) (a b : RecordFields) → (s.is_writing ≡ true) ⊎ (s.position ≡ 0) → start_seen layout s a ≡ start_seen layout s b
  same_start layout s a b (inl writes) = rw writes refl
  same_start layout s a b (inr none) = let test : (s.position == 0) ≡ true = eq-eqb s.position 0 none in rw test refl

  writes_or_none : (writing : Bool) → segment.is_writing ≡ writing → segment.position ≤ segment.base → (segment.is_writing ≡ true) ⊎ (segment.position ≡ 0)
  writes_or_none true is past = inl is
  writes_or_none false is past = elim (cases_lt 0 segment.position) [
    | inl some ↦ absurd (let above = fits.calm is some in omega (arith, above, past))
    | inr none ↦ inr (let most = none in omega (arith, most))
  ]

  -- an opening finds what the course says
  pub found_same : start_found trace course ≡ runs.start_found segment
  found_same =
      (λ j. start_seen (sym fits.layout j) ((ap segment_at fits.point ∙ at_point segment) j) (last_entry course).rec)
      ∙ (elim (cases_lt segment.base segment.position) [
        | inl above ↦ ap (λ (e : Entry). start_seen segment.layout (abstract_of segment) e.rec) (last_known above)
        | inr past ↦ same_start segment.layout (abstract_of segment) (last_entry course).rec (published_at segment segment.position).rec (writes_or_none segment.is_writing refl (let late = past in omega (arith, late)))
      ])

-- ---- the daemon

-- the daemon that goes on is where the polls of the incarnation lead
abbrev pub LifeFits : Trace → Option Daemon → Option Life → Type 0
LifeFits trace None None = Unit {0}
LifeFits trace None (Some life) = ⊥
LifeFits trace (Some daemon) None = ⊥
LifeFits trace (Some daemon) (Some life) = ShowsPast life.from life.past daemon × (life.from.support ≡ is_some trace.page)

-- nothing was done yet, or the header is none of an older version any more
abbrev pub IsFirst : Trace → DaemonPlace → Type 0
IsFirst trace p = (p.polled ≡ 0) × (p.base ≡ 0) × (p.view.daemon_part.segment ≡ first_segment (setup_of trace)) × (p.daemon ≡ None)

abbrev pub IsNew : Trace → DaemonPlace → Type 0
IsNew trace p = (p.daemon ≡ None → 0 < p.polled) × (is_old_header trace.layout (header_shown p.view.daemon_part.segment) ≡ false)

pub record PlaceFits (trace : Trace) (p : DaemonPlace) (course : Course) : Type 0 where
  pub setup : p.view.setup ≡ setup_of trace
  pub polled : course.polled ≡ p.polled
  pub segment : SegmentFits trace p.view.daemon_part.segment course
  pub row : course.row ≤ p.view.seen.rows
  pub page : 2 * course.page ≤ p.view.seen.page_point
  pub base_same : p.base ≡ (published_at p.view.daemon_part.segment p.view.daemon_part.segment.position).base
  pub life : LifeFits trace p.daemon course.life
  pub header : IsFirst trace p ⊎ IsNew trace p

-- a header of the own layout is of no older version
pub own_is_new : (layout : Layout) (number : ℕ) → is_old_header layout (word1_of layout number) ≡ false
own_is_new Two number = refl
own_is_new Three number = ap (λ (h : ℕ × ℕ × ℕ). h.1 == 2) (told_three number)

-- ---- what a call leaves of what was seen

pub record Grows (v w : SeatView) : Type 0 where
  pub rows : v.seen.rows ≤ w.seen.rows
  pub page_point : v.seen.page_point ≤ w.seen.page_point
  pub point : v.seen.point ≤ w.seen.point
  pub pages : Begins v.seen.pages w.seen.pages
  pub history : Begins v.seen.history w.seen.history

pub sound_grows : (v w : SeatView) → w.before ≡ v.seen → IsSoundCall w → Grows v w
sound_grows v w before sound =
    subst (λ (s : Seen). Grows (record v { seen = s }) w) before
    (record {
      rows = up 23 StandsRow w.before.rows w.steps w.seen.rows sound.rows;
      page_point = up 11 (StandsPage w.setup) w.before.page_point w.steps w.seen.page_point sound.page_points;
      point = up 1 (ShowsPoint w.setup) w.before.point w.steps w.seen.point sound.points;
      pages = sound.pages;
      history = sound.history;
    })
  where
    up : (i : ℕ) (Stands : ℕ → ℕ → Type 0) (from : ℕ) (steps : List Step) (to : ℕ) → Climbs i Stands from steps to → from ≤ to
    up i Stands from steps to climbs = let last = climbs.last in let low = to_last i Stands from steps climbs.rises in omega (arith, last, low)
