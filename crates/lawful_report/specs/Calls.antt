-- The clients' lines of a report: what an answer may be, by what its client has seen and by what the daemon's lines came to.
-- An answer stands for the least point that fits it.
use Rattle.std.specs.Prelude.{◌≡◌, ◌≢◌, ◌⊎◌, ℕ, ℤ, ◌+◌, ◌/◌, ◌%◌, ◌≤◌, ◌<◌, ◌<ℤ◌, pos, List, [], ◌∷◌, map, filter, ◌==◌, length, Some, Ok}
use Rattle.std.specs.List.{range_with_len, flat_map}
use Rattle.clock_gate.specs.declared.trace.CallRow.{CallRow}
use Rattle.clock_gate.specs.declared.trace.Trace.{Trace}
use Rattle.clock_gate.specs.ClockRow.{row_at}
use Rattle.generation_word.specs.Layout.{period_of}
use Rattle.interval_now.specs.declared.answers.Answer.{Answer}
use Rattle.interval_now.specs.declared.answers.Answer.TheVariants.{Time, Busy, NotInitialized, PageBusy, Causality as Early}
use Rattle.interval_now.specs.declared.answers.Causality.{Causality}
use Rattle.interval_now.specs.declared.answers.Interval.{Interval}
use Rattle.interval_now.specs.declared.answers.Timed.{Timed}
use Rattle.interval_now.specs.Interval.{interval_of}
use Rattle.lawful_report.specs.declared.call.Call.{Call}
use Rattle.lawful_report.specs.declared.seen.Seen.{Seen}
use Rattle.lawful_report.specs.declared.entry.Entry.{Entry}
use Rattle.lawful_report.specs.Course.{Course, entry_at, course_start}
use Rattle.lawful_report.specs.Pages.{marker_of_page, last_page, page_seen, PageTriesFail}
use Rattle.lawful_report.specs.Points.{number_at, HasNumber, IsLeast}

-- before its first call: the image's point, the first row and the start page
abbrev pub seen_first : Trace → Seen
seen_first trace = record { point = (course_start trace).point; row = 1; page = 0 }

-- ---- an interval

-- a whole record stands at the point, under this generation, from which a reading at this row, with the marker of this page,
-- gives this interval; neither row nor page comes before the record's own
pub record GivesInterval (trace : Trace) (course : Course) (generation row page : ℕ) (interval : Interval) (point : ℕ) : Type 0 where
  pub even : point % 2 ≡ 0
  pub number : number_at (period_of trace.layout) point ≡ generation
  pub entry : Entry
  pub stands : entry_at course (point / 2) ≡ Some entry
  pub replied : entry.replied ≤ row
  pub page_of : entry.page ≤ page
  pub is : interval_of entry.rec (row_at trace.clock row).mono (row_at trace.clock row).real (marker_of_page trace page) ≡ Ok interval

pub record IsTime (trace : Trace) (course : Course) (seen : Seen) (page : ℕ) (timed : Timed) (after : Seen) : Type 0 where
  pub published : 0 < timed.generation
  pub row_kept : seen.row ≤ timed.row
  pub row_done : timed.row ≤ length trace.clock
  pub page_kept : seen.page ≤ page
  pub page_done : page ≤ last_page trace
  pub least : IsLeast seen.point course.point (GivesInterval trace course timed.generation timed.row page timed.interval) after.point
  pub row_after : after.row ≡ timed.row
  pub page_after : after.page ≡ page

-- ---- no try read a record

-- the last try found an odd number first
pub record FoundOdd (period : ℕ) (from until first last : ℕ) (point : ℕ) : Type 0 where
  pub odd : first % 2 ≡ 1
  pub same : last ≡ first
  pub least : IsLeast from until (HasNumber period first) point

-- or an even one that had changed when it was loaded again
pub record FoundChange (period : ℕ) (from until first last : ℕ) (point : ℕ) : Type 0 where
  pub even : first % 2 ≡ 0
  pub published : 0 < first
  pub other : last ≢ first
  pub at : ℕ
  pub least_first : IsLeast from until (HasNumber period first) at
  pub least_last : IsLeast at until (HasNumber period last) point

-- one of the two
abbrev pub FailsAt : (period from until first last : ℕ) → (point : ℕ) → Type 0
FailsAt period from until first last point = FoundOdd period from until first last point ⊎ FoundChange period from until first last point

pub record IsBusy (trace : Trace) (course : Course) (seen : Seen) (first last : ℕ) (after : Seen) : Type 0 where
  pub found : FailsAt (period_of trace.layout) seen.point course.point first last after.point
  pub row_after : after.row ≡ seen.row
  pub page_after : after.page ≡ seen.page

-- ---- the clock came before the record

-- a whole record with this as-of stands at the point
pub record HasAsOf (course : Course) (as_of : ℤ) (point : ℕ) : Type 0 where
  pub even : point % 2 ≡ 0
  pub entry : Entry
  pub stands : entry_at course (point / 2) ≡ Some entry
  pub as_of_is : entry.rec.as_of ≡ as_of

-- a row with this mono that isn't before the record's own
pub record HasMono (trace : Trace) (published mono row : ℕ) : Type 0 where
  pub not_before : published ≤ row
  pub mono_is : (row_at trace.clock row).mono ≡ mono

pub record IsEarly (trace : Trace) (course : Course) (seen : Seen) (causality : Causality) (after : Seen) : Type 0 where
  pub early : pos (causality.mono + 1000) <ℤ causality.as_of
  pub least : IsLeast seen.point course.point (HasAsOf course causality.as_of) after.point
  pub row : IsLeast seen.row (length trace.clock) (HasMono trace least.has.entry.replied causality.mono) after.row
  pub page_after : after.page ≡ seen.page

-- ---- any answer

pub record IsPageBusy (trace : Trace) (seen : Seen) (first last : ℕ) (after : Seen) : Type 0 where
  pub fails : PageTriesFail trace seen.page first last
  pub after_is : after ≡ record seen { page = page_seen trace last }

-- after a call of so many tries an answer with this page may stand, and this is what its client has seen then
abbrev pub MayAnswer : Trace → Course → (tries : ℕ) → Seen → (page : ℕ) → Answer → Seen → Type 0
MayAnswer trace course tries seen page (Time timed) after = IsTime trace course seen page timed after
MayAnswer trace course tries seen page (Busy said first last) after = (said ≡ tries) × IsBusy trace course seen first last after
MayAnswer trace course tries seen page NotInitialized after = (seen.point ≡ 0) × (after ≡ seen)
MayAnswer trace course tries seen page (PageBusy first last) after = IsPageBusy trace seen first last after
MayAnswer trace course tries seen page (Early causality) after = IsEarly trace course seen causality after

-- ---- the calls

-- calls of a client with these tries, numbered from here on
abbrev pub numbered_from : (client number : ℕ) → List ℕ → List Call
numbered_from client number [] = []
numbered_from client number (tries ∷ later) = record { client = client; number = number; tries = tries } ∷ numbered_from client (number + 1) later

-- the calls of a client in their order
abbrev pub calls_of_client : List CallRow → (client : ℕ) → List Call
calls_of_client calls client =
    numbered_from client 1 (map (λ (row : CallRow). row.tries) (filter (λ (row : CallRow). row.client == client) calls))

-- and of all clients, client by client
abbrev pub calls_of : Trace → List Call
calls_of trace = flat_map (calls_of_client trace.calls) (range_with_len 1 trace.clients)
