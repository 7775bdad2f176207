-- A report that stands for the least points never overtakes the points that the loads showed.
use Rattle.std.proofs.Common.{◌≡◌, ◌⊎◌, inl, inr, ℕ, ℤ, Bool, true, false, nat_lt, ◌-◌, ◌/◌, ◌%◌, ◌<◌, ◌≤◌, List, [], ◌∷◌, length, slice_get, get_or, if◌then◌else◌, Option, Some, None, Result, Ok, Err, refl, sym, ap, subst, ◌∙◌, is_some, arith, rules}
use Rattle.std.proofs.lemmas.Bool.{cases_eq, cases_lt, cases_Bool, iff_false, false≢true}
use Rattle.std.proofs.lemmas.Bool.Decides.{Decides-int_eq, nat_tests}
use Rattle.std.specs.Ordering.{int_eq}
use Rattle.std.proofs.lemmas.Option.{slice_get_within, get_or_from_slice_get}
use Rattle.clock_gate.specs.declared.clock_status.ClockStatus.{ClockStatus}
use Rattle.clock_gate.specs.declared.clock_status.ClockStatus.TheVariants.{Unknown, Synchronized, FreeRunning, Disrupted}
use Rattle.clock_gate.specs.declared.trace.Trace.{Trace}
use Rattle.clock_gate.specs.ClockRow.{row_at}
use Rattle.interval_now.specs.declared.answers.Interval.{Interval}
use Rattle.interval_now.specs.declared.answers.Causality.{Causality}
use Rattle.interval_now.specs.Interval.{interval_of}
use Rattle.generation_word.specs.Layout.{period_of}
use Rattle.lawful_report.specs.Points.{number_at, HasNumber}
use Rattle.lawful_report.specs.Pages.{marker_of_page}
use Rattle.lawful_report.specs.declared.entry.Entry.{Entry}
use Rattle.lawful_report.specs.Course.{Course, entry_at, entry_or_none}
use Rattle.lawful_report.specs.declared.seen.Seen.{Seen}
use Rattle.lawful_report.specs.Calls.{GivesInterval, IsTime, IsBusy, HasAsOf, HasMono, IsEarly, IsPageBusy, MayAnswer}
use Rattle.interval_now.specs.declared.answers.Timed.{Timed}
use Rattle.interval_now.specs.declared.answers.Answer.TheVariants.{Time, Busy, NotInitialized, PageBusy, Causality as Early}
use Rattle.lawful_report.specs.Pages.{page_seen}
use Rattle.lawful_report.specs.Showed.{IsOneOf, ShowsTime, ShowsBusy, ShowsEarly, ShowsPageBusy, ShowsNothing, IsNotPast, RowsRise, Dominates, Said, AllShown}
use Rattle.lawful_report.proofs.Least.{Decided, Below, least_below}

-- ---- each property of a point or a row can be decided

pub cases_int : (a b : ℤ) → (a ≡ b) ⊎ (a ≡ b → ⊥)
cases_int a b = elim (cases_Bool (int_eq a b)) [
  | inl same ↦ inl ((Decides-int_eq a b).0 same)
  | inr other ↦ inr (iff_false (Decides-int_eq a b) other)
]

cases_status : (a b : ClockStatus) → (a ≡ b) ⊎ (a ≡ b → ⊥)
cases_status Unknown Unknown = inl refl
cases_status Synchronized Synchronized = inl refl
cases_status FreeRunning FreeRunning = inl refl
cases_status Disrupted Disrupted = inl refl
cases_status a b = inr (λ e. grind arith)

cases_le : (a b : ℕ) → (a ≤ b) ⊎ (a ≤ b → ⊥)
cases_le a b = elim (cases_lt b a) [
  | inl more ↦ inr (λ le. omega arith)
  | inr le ↦ inl le
]

same_interval : (i j : Interval) → i.earliest ≡ j.earliest → i.latest ≡ j.latest → i.status ≡ j.status → i ≡ j
same_interval i j earliest latest status = search rules

cases_interval : (i j : Interval) → (i ≡ j) ⊎ (i ≡ j → ⊥)
cases_interval i j = elim (cases_int i.earliest j.earliest) [
  | inr other ↦ inr (λ e. other (ap (λ (x : Interval). x.earliest) e))
  | inl earliest ↦ elim (cases_int i.latest j.latest) [
    | inr other ↦ inr (λ e. other (ap (λ (x : Interval). x.latest) e))
    | inl latest ↦ elim (cases_status i.status j.status) [
      | inr other ↦ inr (λ e. other (ap (λ (x : Interval). x.status) e))
      | inl status ↦ inl (same_interval i j earliest latest status)
    ]
  ]
]

abbrev value_or : Interval → Result Interval Causality → Interval
value_or i (Ok j) = j
value_or i (Err c) = i

abbrev is_good : Result Interval Causality → Bool
is_good (Ok j) = true
is_good (Err c) = false

cases_ok : (r : Result Interval Causality) (i : Interval) → (r ≡ Ok i) ⊎ (r ≡ Ok i → ⊥)
cases_ok (Err c) i = inr (λ e. false≢true (let is : is_good (Err c) ≡ is_good (Ok i) = ap is_good e in is))
cases_ok (Ok j) i = elim (cases_interval j i) [
  | inl same ↦ inl (let ok : Interval → Result Interval Causality = λ x. Ok x in ap ok same)
  | inr other ↦ inr (λ e. other (let is : value_or i (Ok j) ≡ value_or i (Ok i) = ap (value_or i) e in is))
]

no_entry : (e : Entry) → None ≡ Some e → ⊥
no_entry e is = false≢true (ap (λ (o : Option Entry). is_some o) is)

pub one_entry : (a b : Entry) → Some a ≡ Some b → a ≡ b
one_entry a b is = ap (λ (o : Option Entry). entry_or_none o) is

-- what GivesInterval says of an entry
record Gives (trace : Trace) (generation row page : ℕ) (interval : Interval) (point : ℕ) (entry : Entry) : Type 0 where
  even : point % 2 ≡ 0
  number : number_at (period_of trace.layout) point ≡ generation
  replied : entry.replied ≤ row
  page_of : entry.page ≤ page
  is : interval_of entry.rec (row_at trace.clock row).mono (row_at trace.clock row).real (marker_of_page trace page) ≡ Ok interval

cases_gives : (trace : Trace) (generation row page : ℕ) (interval : Interval) (point : ℕ) (entry : Entry) → Gives trace generation row page interval point entry ⊎ (Gives trace generation row page interval point entry → ⊥)
cases_gives trace generation row page interval point entry = elim (cases_eq (point % 2) 0) [
  | inr never ↦ inr (λ g. never g.even)
  | inl even ↦ elim (cases_eq (number_at (period_of trace.layout) point) generation) [
    | inr never ↦ inr (λ g. never g.number)
    | inl number ↦ elim (cases_le entry.replied row) [
      | inr never ↦ inr (λ g. never g.replied)
      | inl replied ↦ elim (cases_le entry.page page) [
        | inr never ↦ inr (λ g. never g.page_of)
        | inl page_of ↦ elim (cases_ok (interval_of entry.rec (row_at trace.clock row).mono (row_at trace.clock row).real (marker_of_page trace page)) interval) [
          | inr never ↦ inr (λ g. never g.is)
          | inl is ↦ inl (record { even = even; number = number; replied = replied; page_of = page_of; is = is })
        ]
      ]
    ]
  ]
]

gives_by : (trace : Trace) (course : Course) (generation row page : ℕ) (interval : Interval) (point : ℕ) (found : Option Entry) → entry_at course (point / 2) ≡ found → GivesInterval trace course generation row page interval point ⊎ (GivesInterval trace course generation row page interval point → ⊥)
gives_by trace course generation row page interval point None stands = inr (λ g. no_entry g.entry (sym stands ∙ g.stands))
gives_by trace course generation row page interval point (Some entry) stands = elim (cases_gives trace generation row page interval point entry) [
  | inl g ↦ inl (record { even = g.even; number = g.number; entry = entry; stands = stands; replied = g.replied; page_of = g.page_of; is = g.is })
  | inr never ↦ inr (λ g. never (subst (λ (e : Entry). Gives trace generation row page interval point e) (one_entry g.entry entry (sym g.stands ∙ stands)) (record { even = g.even; number = g.number; replied = g.replied; page_of = g.page_of; is = g.is })))
]

pub decide_gives : (trace : Trace) (course : Course) (generation row page : ℕ) (interval : Interval) → Decided (GivesInterval trace course generation row page interval)
decide_gives trace course generation row page interval point = gives_by trace course generation row page interval point (entry_at course (point / 2)) refl

as_of_by : (course : Course) (as_of : ℤ) (point : ℕ) (found : Option Entry) → entry_at course (point / 2) ≡ found → HasAsOf course as_of point ⊎ (HasAsOf course as_of point → ⊥)
as_of_by course as_of point None stands = inr (λ h. no_entry h.entry (sym stands ∙ h.stands))
as_of_by course as_of point (Some entry) stands = elim (cases_eq (point % 2) 0) [
  | inr never ↦ inr (λ h. never h.even)
  | inl even ↦ elim (cases_int entry.rec.as_of as_of) [
    | inl is ↦ inl (record { even = even; entry = entry; stands = stands; as_of_is = is })
    | inr never ↦ inr (λ h. never (subst (λ (e : Entry). e.rec.as_of ≡ as_of) (one_entry h.entry entry (sym h.stands ∙ stands)) h.as_of_is))
  ]
]

pub decide_as_of : (course : Course) (as_of : ℤ) → Decided (HasAsOf course as_of)
decide_as_of course as_of point = as_of_by course as_of point (entry_at course (point / 2)) refl

pub decide_number : (period number : ℕ) → Decided (HasNumber period number)
decide_number period number point = cases_eq (number_at period point) number

pub decide_mono : (trace : Trace) (published mono : ℕ) → Decided (HasMono trace published mono)
decide_mono trace published mono row = elim (cases_le published row) [
  | inr never ↦ inr (λ h. never h.not_before)
  | inl le ↦ elim (cases_eq (row_at trace.clock row).mono mono) [
    | inr never ↦ inr (λ h. never h.mono_is)
    | inl is ↦ inl (record { not_before = le; mono_is = is })
  ]
]

-- ---- each answer

time_dominates : (trace : Trace) (course : Course) (page : ℕ) (timed : Timed) (seen shown after : Seen) → IsNotPast seen shown → ShowsTime trace course shown page timed after → (next : Seen) × IsTime trace course seen page timed next × IsNotPast next after
time_dominates trace course page timed seen shown after order shows =
    let below : Below (GivesInterval trace course timed.generation timed.row page timed.interval) seen.point course.point after.point = least_below _ (decide_gives trace course timed.generation timed.row page timed.interval) seen.point shown.point course.point after.point order.point_order shows.point in (
      record { point = below.at; row = timed.row; page = page },
      record {
        published = shows.published;
        row_kept = omega (arith, order.row_order, shows.row_kept);
        row_done = shows.row_done;
        page_kept = omega (arith, order.page_order, shows.page_kept);
        page_done = shows.page_done;
        least = below.least;
        row_after = refl;
        page_after = refl;
      },
      record { point_order = below.below; row_order = shows.row_after; page_order = shows.page_after },
    )

busy_dominates : (trace : Trace) (course : Course) (first last : ℕ) (seen shown after : Seen) → IsNotPast seen shown → ShowsBusy trace course shown first last after → (next : Seen) × IsBusy trace course seen first last next × IsNotPast next after
busy_dominates trace course first last seen shown after order shows = elim shows.shows [
  | inl o ↦
      let below : Below (HasNumber (period_of trace.layout) first) seen.point course.point after.point = least_below _ (decide_number (period_of trace.layout) first) seen.point shown.point course.point after.point order.point_order o.shown in (
        record { point = below.at; row = seen.row; page = seen.page },
        record { found = inl (record { odd = o.odd; same = o.same; least = below.least }); row_after = refl; page_after = refl },
        record { point_order = below.below; row_order = omega (arith, order.row_order, shows.row_after); page_order = omega (arith, order.page_order, shows.page_after) },
      )
  | inr c ↦
      let one : Below (HasNumber (period_of trace.layout) first) seen.point course.point c.at = least_below _ (decide_number (period_of trace.layout) first) seen.point shown.point course.point c.at order.point_order c.first_shown in
      let two : Below (HasNumber (period_of trace.layout) last) one.at course.point after.point = least_below _ (decide_number (period_of trace.layout) last) one.at c.at course.point after.point one.below c.last_shown in (
        record { point = two.at; row = seen.row; page = seen.page },
        record {
          found = inr (record { even = c.even; published = c.published; other = c.other; at = one.at; least_first = one.least; least_last = two.least });
          row_after = refl;
          page_after = refl;
        },
        record { point_order = two.below; row_order = omega (arith, order.row_order, shows.row_after); page_order = omega (arith, order.page_order, shows.page_after) },
      )
]

-- what stands at a position is an entry of the list
stands_at : (before : ℕ) (entries : List Entry) (position : ℕ) (entry : Entry) (test : Bool) → nat_lt before position ≡ test → (if test then slice_get entries (position - before - 1) else None) ≡ Some entry → (before < position) × (slice_get entries (position - before - 1) ≡ Some entry)
stands_at before entries position entry true is stands = (grind (arith, nat_tests), stands)
stands_at before entries position entry false is stands = absurd (no_entry entry stands)

pub stands_in : (course : Course) (position : ℕ) (entry : Entry) → entry_at course position ≡ Some entry → (course.before < position) × (slice_get course.entries (position - course.before - 1) ≡ Some entry)
stands_in course position entry stands = stands_at course.before course.entries position entry (nat_lt course.before position) refl stands

rows_of : (course : Course) (p q : ℕ) (a b : Entry) → RowsRise course.entries → p ≤ q → entry_at course (p / 2) ≡ Some a → entry_at course (q / 2) ≡ Some b → a.replied ≤ b.replied
rows_of course p q a b rise le one two =
    let at_one : slice_get course.entries (p / 2 - course.before - 1) ≡ Some a = (stands_in course (p / 2) a one).1 in
    let at_two : slice_get course.entries (q / 2 - course.before - 1) ≡ Some b = (stands_in course (q / 2) b two).1 in
    let order : p / 2 - course.before - 1 ≤ q / 2 - course.before - 1 = omega arith in
    let rises : (get_or course.entries (p / 2 - course.before - 1) a).replied ≤ (get_or course.entries (q / 2 - course.before - 1) a).replied = rise (p / 2 - course.before - 1) (q / 2 - course.before - 1) a order (slice_get_within course.entries (q / 2 - course.before - 1) b at_two) in
    let is_a : get_or course.entries (p / 2 - course.before - 1) a ≡ a = get_or_from_slice_get course.entries (p / 2 - course.before - 1) a a at_one in
    let is_b : get_or course.entries (q / 2 - course.before - 1) a ≡ b = get_or_from_slice_get course.entries (q / 2 - course.before - 1) b a at_two in
    subst (λ (e : Entry). a.replied ≤ e.replied) is_b (subst (λ (e : Entry). e.replied ≤ (get_or course.entries (q / 2 - course.before - 1) a).replied) is_a rises)

early_dominates : (trace : Trace) (course : Course) (causality : Causality) (seen shown after : Seen) → RowsRise course.entries → IsNotPast seen shown → ShowsEarly trace course shown causality after → (next : Seen) × IsEarly trace course seen causality next × IsNotPast next after
early_dominates trace course causality seen shown after rise order shows =
    let below : Below (HasAsOf course causality.as_of) seen.point course.point after.point = least_below _ (decide_as_of course causality.as_of) seen.point shown.point course.point after.point order.point_order shows.point in
    let sooner : below.least.has.entry.replied ≤ shows.point.has.entry.replied = rows_of course below.at after.point below.least.has.entry shows.point.has.entry rise below.below below.least.has.stands shows.point.has.stands in
    let row_shown : IsOneOf shown.row (length trace.clock) (HasMono trace below.least.has.entry.replied causality.mono) after.row = record { not_before = shows.row.not_before; not_past = shows.row.not_past; has = record { not_before = omega (arith, sooner, shows.row.has.not_before); mono_is = shows.row.has.mono_is } } in
    let row_below : Below (HasMono trace below.least.has.entry.replied causality.mono) seen.row (length trace.clock) after.row = least_below _ (decide_mono trace below.least.has.entry.replied causality.mono) seen.row shown.row (length trace.clock) after.row order.row_order row_shown in (
      record { point = below.at; row = row_below.at; page = seen.page },
      record { early = shows.early; least = below.least; row = row_below.least; page_after = refl },
      record { point_order = below.below; row_order = row_below.below; page_order = omega (arith, order.page_order, shows.page_after) },
    )

page_busy_dominates : (trace : Trace) (first last : ℕ) (seen shown after : Seen) → IsNotPast seen shown → ShowsPageBusy trace shown first last after → (next : Seen) × IsPageBusy trace seen first last next × IsNotPast next after
page_busy_dominates trace first last seen shown after order shows = (
  record seen { page = page_seen trace last },
  record {
    fails = record {
      support = shows.fails.support;
      first_fits = shows.fails.first_fits;
      last_fits = shows.fails.last_fits;
      not_before = omega (arith, order.page_order, shows.fails.not_before);
      first_done = shows.fails.first_done;
      last_done = shows.fails.last_done;
      fails = shows.fails.fails;
    };
    after_is = refl;
  },
  record { point_order = omega (arith, order.point_order, shows.point_after); row_order = omega (arith, order.row_order, shows.row_after); page_order = shows.page_after },
)

nothing_dominates : (seen shown after : Seen) → IsNotPast seen shown → ShowsNothing shown after → (next : Seen) × ((seen.point ≡ 0) × (next ≡ seen)) × IsNotPast next after
nothing_dominates seen shown after order shows =
    let at_first : shown.point ≡ 0 = shows.at_first in (
      seen,
      (omega (arith, order.point_order), refl),
      record { point_order = omega (arith, order.point_order, shows.later.point_order); row_order = omega (arith, order.row_order, shows.later.row_order); page_order = omega (arith, order.page_order, shows.later.page_order) },
    )

pub dominates : Dominates
dominates trace course tries page (Time timed) seen shown after rise order shows = time_dominates trace course page timed seen shown after order shows
dominates trace course tries page (Busy said first last) seen shown after rise order shows =
    let found : (next : Seen) × IsBusy trace course seen first last next × IsNotPast next after = busy_dominates trace course first last seen shown after order shows.1 in
    (found.0, (shows.0, found.1), found.2)
dominates trace course tries page NotInitialized seen shown after rise order shows = nothing_dominates seen shown after order shows
dominates trace course tries page (PageBusy first last) seen shown after rise order shows = page_busy_dominates trace first last seen shown after order shows
dominates trace course tries page (Early causality) seen shown after rise order shows = early_dominates trace course causality seen shown after rise order shows

-- what these calls of one client said may stand in a report, one after another
abbrev pub AllMay : Trace → Course → Seen → List ℕ → List Said → Type 0
AllMay trace course seen [] [] = Unit {0}
AllMay trace course seen [] (said ∷ later) = ⊥
AllMay trace course seen (tries ∷ left) [] = ⊥
AllMay trace course seen (tries ∷ left) (said ∷ later) =
    (after : Seen) × MayAnswer trace course tries seen said.page said.answer after × AllMay trace course after left later

-- and so it is where their loads show it
pub all_dominated : (trace : Trace) (course : Course) (seen shown : Seen) (calls : List ℕ) (said : List Said) → RowsRise course.entries
    → IsNotPast seen shown → AllShown trace course shown calls said → AllMay trace course seen calls said
all_dominated trace course seen shown [] [] rise order shows = tt
all_dominated trace course seen shown [] (said ∷ later) rise order shows = shows
all_dominated trace course seen shown (tries ∷ left) [] rise order shows = shows
all_dominated trace course seen shown (tries ∷ left) (said ∷ later) rise order shows =
    let one : (next : Seen) × MayAnswer trace course tries seen said.page said.answer next × IsNotPast next shows.0 = dominates trace course tries said.page said.answer seen shown shows.0 rise order shows.1 in
    (one.0, one.1, all_dominated trace course one.0 shows.0 left later rise one.2 shows.2)
