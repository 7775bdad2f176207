-- The numbers of an answer with an interval, and the point that it stands for.
use Rattle.std.proofs.Common.{◌≡◌, ℕ, ◌^◌, ◌<◌, ◌≤◌, List, ◌++◌, length, refl, sym, ap, ◌∙◌, arith}
use Rattle.std.specs.Prelude.{slice_get, Option}
use Rattle.clock_gate.specs.ClockRow.{row_at, reading_at}
use Rattle.clock_gate.specs.declared.clock_row.ClockRow.{ClockRow}
use Rattle.clock_gate.specs.declared.clock_row.Reading.{Reading}
use Rattle.generation_word.specs.Layout.{period_of}
use Rattle.lawful_report.specs.declared.entry.Entry.{Entry}
use Rattle.clock_gate.specs.declared.limits.TheConstants.{MOST_HOST_ROWS}
use Rattle.clock_gate.specs.declared.trace.Trace.{Trace}
use Rattle.interval_now.specs.declared.answers.Answer.TheVariants.{Time}
use Rattle.interval_now.specs.declared.answers.Interval.{Interval}
use Rattle.interval_now.specs.declared.answers.Timed.{Timed}
use Rattle.lawful_report.specs.declared.call.Call.{Call}
use Rattle.lawful_report.specs.declared.seen.Seen.{Seen}
use Rattle.lawful_report.specs.Course.{Course}
use Rattle.lawful_report.specs.Calls.{IsTime, GivesInterval}
use Rattle.lawful_report.specs.Pages.{last_page}
use Rattle.lawful_report.specs.Points.{IsLeast}
use Rattle.lawful_report.specs.Lines.{answered_line, time_text, time_place}
use Rattle.report_audit.specs.Auditor.{KnowsTrace, ShowsCourse}
use Rattle.report_audit.specs.declared.known.Known.{Known}
use Rattle.report_audit.specs.declared.progress.Progress.{Progress}
use Rattle.report_audit.specs.FoundLines.{TimeFits, time_said, PlaceFits, KnowsRun}
use Rattle.report_audit.specs.Numbers.{numbers_in}
use Rattle.report_audit.proofs.LineNumbers.{ReadsTime, time_six}
use Rattle.report_audit.proofs.SmallNumbers.{number_small}

-- the line doesn't tell the sequence count
pub said_alike : (client call page : ℕ) (t : Timed) → answered_line client call page (Time t) ≡ answered_line client call page (time_said t.generation t.row t.interval)
unfolding answered_line time_text time_place
said_alike client call page t = refl

pub record TimeReads (trace : Trace) (course : Course) (call : Call) (seen : Seen) (rows last : ℕ) (text : List ℕ) (page : ℕ) (t : Timed) (after : Seen) : Type 0 where
  pub reads : ReadsTime (numbers_in 6 text) t.generation t.row page
  pub generation_small : t.generation < 2 ^ 32
  pub row_small : t.row < 2 ^ 32
  pub page_small : page < 2 ^ 32
  pub place : PlaceFits seen rows last t.generation t.row page
  pub fits : TimeFits trace course call.client call.number t.generation t.row page text after.point

pub time_reads : (trace : Trace) (course : Course) (call : Call) (seen after : Seen) (rows last page : ℕ) (t : Timed) (text later : List ℕ)
    → call.client < 2 ^ 32 → call.number < 2 ^ 32 → length trace.clock ≡ rows → length trace.clock ≤ MOST_HOST_ROWS → last_page trace ≡ last → last < 2 ^ 31
    → IsTime trace course seen page t after → text ≡ answered_line call.client call.number page (Time t) ++ later → TimeReads trace course call seen rows last text page t after
time_reads trace course call seen after rows last page t text later c k rows_are few last_is last_small time is =
    let generation : t.generation < 2 ^ 32 = number_small trace.layout t.generation after.point time.least.has.number in
    let row : t.row < 2 ^ 32 = omega (arith, time.row_done, few) in
    let page_less : page < 2 ^ 32 = omega (arith, time.page_done, last_is, last_small) in
    record {
      reads = time_six call.client call.number page t text later c k (omega (arith, generation)) (omega (arith, row)) (omega (arith, page_less)) is;
      generation_small = generation;
      row_small = row;
      page_small = page_less;
      place = record { published = time.published; row_kept = time.row_kept; row_done = omega (arith, time.row_done, rows_are); page_kept = time.page_kept; page_done = omega (arith, time.page_done, last_is) };
      fits = record { interval = t.interval; gives = time.least.has; later = later; begins = is ∙ ap (λ (line : List ℕ). line ++ later) (said_alike call.client call.number page t) };
    }

-- the least point that fits is the least that gives its interval
pub time_found : (trace : Trace) (course : Course) (call : Call) (seen : Seen) (rows last generation row page point until : ℕ) (interval : Interval) (text later : List ℕ)
    → course.point ≡ until → length trace.clock ≡ rows → last_page trace ≡ last → PlaceFits seen rows last generation row page
    → IsLeast seen.point until (TimeFits trace course call.client call.number generation row page text) point
    → GivesInterval trace course generation row page interval point → text ≡ answered_line call.client call.number page (time_said generation row interval) ++ later
    → IsTime trace course seen page (record { generation = generation; row = row; sequence = 0; interval = interval }) (record { point = point; row = row; page = page })
time_found trace course call seen rows last generation row page point until interval text later last_point rows_are last_is place least gives is = record {
  published = place.published;
  row_kept = place.row_kept;
  row_done = omega (arith, place.row_done, rows_are);
  page_kept = place.page_kept;
  page_done = omega (arith, place.page_done, last_is);
  least = record {
    not_before = least.not_before;
    not_past = omega (arith, least.not_past, last_point);
    has = gives;
    none_less = λ n le other. least.none_less n le (record { interval = interval; gives = other; later = later; begins = is });
  };
  row_after = refl;
  page_after = refl;
}

row_read : (clock : List ClockRow) (row : ℕ) (r : Reading) → r ≡ reading_at clock row → ((row_at clock r.row).mono ≡ r.mono) × ((row_at clock r.row).real ≡ r.real)
row_read clock row r is = rw is (refl, refl)

-- what the search for the point needs is known
pub known_run : (trace : Trace) (course : Course) (known : Known) (progress : Progress) (entries : List Entry) (clock : List ClockRow) (row page period : ℕ) (r : Reading) (marker : Option ℕ)
    → ShowsCourse course progress → KnowsTrace trace known → entries ≡ progress.entries.items → clock ≡ trace.clock → r ≡ reading_at clock row → marker ≡ slice_get known.markers page → period ≡ period_of trace.layout
    → KnowsRun trace course entries progress.before r.row page r.mono r.real marker period
known_run trace course known progress entries clock row page period r marker shows knows entries_are clock_is reads marker_is period_is =
    let read = row_read clock row r reads in
    record {
      time = record {
        entries_are = shows.entries_are ∙ sym entries_are;
        before_is = shows.before_is;
        mono_is = ap (λ (rows : List ClockRow). (row_at rows r.row).mono) (sym clock_is) ∙ read.0;
        real_is = ap (λ (rows : List ClockRow). (row_at rows r.row).real) (sym clock_is) ∙ read.1;
        marker_is = knows.markers page ∙ sym marker_is;
      };
      period_is = sym period_is;
    }
