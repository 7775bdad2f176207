-- What the loads of a client show of its answers: points that fit them, and need not be the least. A report that stands for
-- the least points never overtakes them.
use Rattle.std.specs.Prelude.{◌≡◌, ◌≢◌, ◌⊎◌, ℕ, ◌+◌, ◌%◌, ◌≤◌, ◌<◌, ◌<ℤ◌, pos, List, [], ◌∷◌, length}
use Rattle.std.specs.List.Sorted.{IsNonDecreasingBy}
use Rattle.clock_gate.specs.declared.trace.Trace.{Trace}
use Rattle.generation_word.specs.Layout.{period_of}
use Rattle.interval_now.specs.declared.answers.Answer.{Answer}
use Rattle.interval_now.specs.declared.answers.Answer.TheVariants.{Time, Busy, NotInitialized, PageBusy, Causality as Early}
use Rattle.interval_now.specs.declared.answers.Causality.{Causality}
use Rattle.interval_now.specs.declared.answers.Timed.{Timed}
use Rattle.lawful_report.specs.Points.{HasNumber}
use Rattle.lawful_report.specs.Pages.{last_page, page_seen, PageTriesFail}
use Rattle.lawful_report.specs.declared.entry.Entry.{Entry}
use Rattle.lawful_report.specs.Course.{Course}
use Rattle.lawful_report.specs.declared.seen.Seen.{Seen}
use Rattle.lawful_report.specs.Calls.{GivesInterval, HasAsOf, HasMono, MayAnswer}

-- a number from one to another with a property
pub record IsOneOf (from last : ℕ) (Has : ℕ → Type 0) (n : ℕ) : Type 0 where
  pub not_before : from ≤ n
  pub not_past : n ≤ last
  pub has : Has n

pub record ShowsTime (trace : Trace) (course : Course) (seen : Seen) (page : ℕ) (timed : Timed) (after : Seen) : Type 0 where
  pub published : 0 < timed.generation
  pub row_kept : seen.row ≤ timed.row
  pub row_done : timed.row ≤ length trace.clock
  pub page_kept : seen.page ≤ page
  pub page_done : page ≤ last_page trace
  pub point : IsOneOf seen.point course.point (GivesInterval trace course timed.generation timed.row page timed.interval) after.point
  pub row_after : timed.row ≤ after.row
  pub page_after : page ≤ after.page

pub record ShowsOdd (period from until first last point : ℕ) : Type 0 where
  pub odd : first % 2 ≡ 1
  pub same : last ≡ first
  pub shown : IsOneOf from until (HasNumber period first) point

pub record ShowsChange (period from until first last point : ℕ) : Type 0 where
  pub even : first % 2 ≡ 0
  pub published : 0 < first
  pub other : last ≢ first
  pub at : ℕ
  pub first_shown : IsOneOf from until (HasNumber period first) at
  pub last_shown : IsOneOf at until (HasNumber period last) point

pub record ShowsBusy (trace : Trace) (course : Course) (seen : Seen) (first last : ℕ) (after : Seen) : Type 0 where
  pub shows :
      ShowsOdd (period_of trace.layout) seen.point course.point first last after.point
      ⊎ ShowsChange (period_of trace.layout) seen.point course.point first last after.point
  pub row_after : seen.row ≤ after.row
  pub page_after : seen.page ≤ after.page

pub record ShowsEarly (trace : Trace) (course : Course) (seen : Seen) (causality : Causality) (after : Seen) : Type 0 where
  pub early : pos (causality.mono + 1000) <ℤ causality.as_of
  pub point : IsOneOf seen.point course.point (HasAsOf course causality.as_of) after.point
  pub row : IsOneOf seen.row (length trace.clock) (HasMono trace point.has.entry.replied causality.mono) after.row
  pub page_after : seen.page ≤ after.page

-- the client's loads went no further back than what it had seen
pub record IsNotPast (a b : Seen) : Type 0 where
  pub point_order : a.point ≤ b.point
  pub row_order : a.row ≤ b.row
  pub page_order : a.page ≤ b.page

-- the last sequence count tells a page that was seen
pub record ShowsPageBusy (trace : Trace) (seen : Seen) (first last : ℕ) (after : Seen) : Type 0 where
  pub fails : PageTriesFail trace seen.page first last
  pub point_after : seen.point ≤ after.point
  pub row_after : seen.row ≤ after.row
  pub page_after : page_seen trace last ≤ after.page

-- nothing was published at the client's present point, so at none before
pub record ShowsNothing (seen after : Seen) : Type 0 where
  pub at_first : seen.point ≡ 0
  pub later : IsNotPast seen after

-- the loads of a call of so many tries, from what its client had seen, show this answer, and what the client has seen then
abbrev pub Shows : Trace → Course → (tries : ℕ) → Seen → (page : ℕ) → Answer → Seen → Type 0
Shows trace course tries seen page (Time timed) after = ShowsTime trace course seen page timed after
Shows trace course tries seen page (Busy said first last) after = (said ≡ tries) × ShowsBusy trace course seen first last after
Shows trace course tries seen page NotInitialized after = ShowsNothing seen after
Shows trace course tries seen page (PageBusy first last) after = ShowsPageBusy trace seen first last after
Shows trace course tries seen page (Early causality) after = ShowsEarly trace course seen causality after

-- later records were taken at no earlier row
abbrev pub RowsRise : List Entry → Type 0
RowsRise entries = IsNonDecreasingBy (λ (entry : Entry). entry.replied) entries

-- where the loads show an answer from what a client had seen, the answer may stand after less, and leads to no more
abbrev pub Dominates : Type 0
Dominates =
    (trace : Trace) (course : Course) (tries page : ℕ) (answer : Answer) (seen shown after : Seen) → RowsRise course.entries
    → IsNotPast seen shown → Shows trace course tries shown page answer after
    → (next : Seen) × MayAnswer trace course tries seen page answer next × IsNotPast next after

-- ---- all calls of a client

-- what a call said: its page and its answer
pub record Said : Type 0 where
  pub page : ℕ
  pub answer : Answer

-- what these calls of one client said is shown by its loads
abbrev pub AllShown : Trace → Course → Seen → List ℕ → List Said → Type 0
AllShown trace course seen [] [] = Unit {0}
AllShown trace course seen [] (said ∷ later) = ⊥
AllShown trace course seen (tries ∷ left) [] = ⊥
AllShown trace course seen (tries ∷ left) (said ∷ later) =
    (after : Seen) × Shows trace course tries seen said.page said.answer after × AllShown trace course after left later
