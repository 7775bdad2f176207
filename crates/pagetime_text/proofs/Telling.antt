-- What is held of lines tells their facts.
use Rattle.std.proofs.Common.{◌≡◌, ◌∙◌, ℕ, ◌+◌, Bool, true, false, not, List, [], ◌∷◌, ◌++◌, length, Option, Some, None, Result, Ok, Err, refl, sym, ap, append_assoc}
use Rattle.std.specs.Prelude.{◌==◌, ◌||◌, is_some, if◌then◌else◌}
use Rattle.std.specs.List.{flat_map, list_any}
use Rattle.std.proofs.lemmas.List.{append-nil, length-append}
use Rattle.std.proofs.lemmas.List.Concat.{flat_map-append}
use Rattle.csv_records.specs.Reason.{◌>>=◌, unless}
use Rattle.csv_records.specs.Step.{joined, step_by}
use Rattle.csv_records.specs.TraceError.{Refuses, numbered}
use Rattle.csv_records.specs.declared.reason.Reason.{Reason}
use Rattle.csv_records.specs.declared.trace_error.TraceError.{TraceError}
use Rattle.csv_records.specs.declared.trace_error.TraceError.TheVariants as error
use Rattle.csv_records.specs.declared.trace_error.TraceFault.{TraceFault}
use Rattle.vmclock_page.specs.ClockPage.{ClockPage}
use Rattle.csv_records.specs.declared.reason.Reason.TheVariants as reason
use Rattle.vmclock_time.specs.Making.{Made, nothing_made, with_row}
use Rattle.vmclock_time.specs.PageReport.{failed_of, told_more, told_of, told_to}
use Rattle.vmclock_time.specs.Reads.{KnownPage, PageRead, read_by, read_in, reads_from}
use Rattle.vmclock_time.specs.Premises.{first_failed}
use Rattle.vmclock_time.specs.declared.rows.PageFailed.{PageFailed}
use Rattle.vmclock_time.specs.declared.rows.PageRow.{PageRow}
use Rattle.vmclock_time.specs.declared.rows.PageRow.TheVariants as row
use Rattle.vmclock_time.specs.declared.rows.PageTold.{PageTold}
use Rattle.vmclock_time.proofs.Made.{last_from, made_more, made_of, told_of-more}
use Rattle.pagetime_text.specs.Facts.{Facts, ends, facts_of, fault_of, grammar, has_page, is_page, row_in, rows_of}
use Rattle.pagetime_text.specs.Held.{HeldFacts, held_start, row_text}
use Rattle.pagetime_text.specs.Held as held
use Rattle.pagetime_text.specs.Line.{line_of}
use Rattle.pagetime_text.specs.Text.{header_line, premises_line, report_text, text_by, told_line, told_lines}
use Rattle.pagetime_text.specs.declared.line.Line.{Line}
use Rattle.pagetime_text.specs.declared.line.Line.TheVariants as line
use Rattle.pagetime_text.proofs.Steps.{taken}

-- what is held where the lines tell so much
abbrev pub tell : Facts → HeldFacts
tell facts = record { count = facts.count; rows = length facts.rows; made = made_of facts.rows; text = header_line ++ told_lines (told_of facts.rows) }

pub tell_start : tell (facts_of []) ≡ held_start
unfolding rows_of told_lines told_of failed_of reads_from first_failed last_from
tell_start = ap (λ (text : List ℕ). with_text text) (append-nil header_line)
  where
    with_text : List ℕ → HeldFacts
    with_text text = record { count = 0; rows = 0; made = made_of []; text = text }

-- ---- A page stands before where one is the last

stays : (page : KnownPage) (rows : List PageRow) → is_some (last_from (Some page) rows) ≡ true
unfolding last_from
stays page [] = refl
stays page (row.Page other truth ∷ rows) = stays (other, truth) rows
stays page (row.Read counter truth ∷ rows) = stays page rows

has_last : (rows : List PageRow) → is_some (last_from None rows) ≡ has_page rows
unfolding last_from has_page
has_last [] = refl
has_last (row.Page page truth ∷ rows) = stays (page, truth) rows
has_last (row.Read counter truth ∷ rows) = has_last rows

fault_same : (facts : Facts) (l : Line) → held.fault_of (tell facts) l ≡ fault_of facts l
fault_same facts line.Header = refl
fault_same facts (line.Page page truth) = refl
fault_same facts (line.Read counter truth) = rw (has_last facts.rows) refl

-- ---- One row more

lines_more : (told : List PageTold) (last : Option KnownPage) (r : PageRow) → told_lines (told_more told (read_in last r)) ≡ told_lines told ++ row_text last r
unfolding told_lines
lines_more told last (row.Page page truth) = sym (append-nil (flat_map told_line told))
lines_more told None (row.Read counter truth) = sym (append-nil (flat_map told_line told))
lines_more told (Some (page, started)) (row.Read counter truth) = flat_map-append told_line told (told_to (read page started counter truth) ∷ [])
    ∙ ap (λ (text : List ℕ). flat_map told_line told ++ text) (append-nil (told_line (told_to (read page started counter truth))))
  where
    read : ClockPage → Option ℕ → ℕ → Option ℕ → PageRead
    read page started counter truth = record { page = page; started = started; counter = counter; truth = truth }

tell_row : (count : ℕ) (rows : List PageRow) (r : PageRow)
    → tell (record { count = count + 1; rows = rows ++ r ∷ [] }) ≡ held.with_row_in (tell (record { count = count; rows = rows })) (Some r)
tell_row count rows r =
    rw (length-append rows (r ∷ []), made_more rows r, told_of-more rows r, lines_more (told_of rows) (last_from None rows) r)
    (ap (λ (text : List ℕ). with_text text) (sym (append_assoc header_line (told_lines (told_of rows)) (row_text (last_from None rows) r))))
  where
    with_text : List ℕ → HeldFacts
    with_text text = record { count = count + 1; rows = length rows + 1; made = with_row (made_of rows) r; text = text }

-- one line more
tell_more : (facts : Facts) (l : Line) → tell (taken facts l) ≡ held.taken (tell facts) l
tell_more facts l = by (row_in l)
  where
    by : (o : Option PageRow) → tell (record { count = facts.count + 1; rows = joined facts.rows o }) ≡ held.with_row_in (tell facts) o
    by None = refl
    by (Some r) = tell_row facts.count facts.rows r

-- ---- One record more

told_step : Result Facts Reason → Result HeldFacts Reason
told_step (Ok facts) = Ok (tell facts)
told_step (Err reason) = Err reason

step_same : (facts : Facts) (fields : List (List ℕ)) → held.step_of (tell facts) fields ≡ told_step (step_by grammar taken facts fields)
unfolding told_step held.step_of
step_same facts fields = by (line_of fields)
  where
    after : (l : Line) (fault : Option Reason) → (unless fault l >>= λ l. Ok (held.taken (tell facts) l)) ≡ told_step (unless fault l >>= λ l. Ok (taken facts l))
    after l None = ap (λ (h : HeldFacts). held_so h) (sym (tell_more facts l))
      where
        held_so : HeldFacts → Result HeldFacts Reason
        held_so h = Ok h
    after l (Some reason) = refl

    by : (said : Result Line Reason) → ((said >>= λ l. unless (held.fault_of (tell facts) l) l) >>= λ l. Ok (held.taken (tell facts) l))
        ≡ told_step ((said >>= λ l. unless (fault_of facts l) l) >>= λ l. Ok (taken facts l))
    by (Err reason) = refl
    by (Ok l) = rw (fault_same facts l) (after l (fault_of facts l))

-- what is held after a record tells facts
pub record Tells (n : ℕ) (r : Result Facts Reason) (new : HeldFacts) : Type 0 where
  pub facts : Facts
  pub made : numbered n r ≡ Ok facts
  pub told : new ≡ tell facts

tells_on : (n : ℕ) (r : Result Facts Reason) (new : HeldFacts) → numbered n (told_step r) ≡ Ok new → Tells n r new
unfolding told_step
tells_on n (Ok facts) new e = record { facts = facts; made = refl; told = sym (cc e) }
tells_on n (Err reason) new e = absurd (cc e)

pub record_taken : (facts : Facts) (was new : HeldFacts) (fields : List (List ℕ)) → was ≡ tell facts → numbered (was.count + 1) (held.step_of was fields) ≡ Ok new
    → Tells (facts.count + 1) (step_by grammar taken facts fields) new
record_taken facts was new fields told e = tells_on (facts.count + 1) (step_by grammar taken facts fields) new (rw (told, step_same facts fields) at e)

refused_so : (n : ℕ) (r : Result Facts Reason) (e : TraceError) → Refuses e (numbered n (told_step r)) → Refuses e (numbered n r)
unfolding told_step
refused_so n r error.Memory refuses = tt
refused_so n (Ok facts) (error.Refused fault) refuses = absurd (cc refuses)
refused_so n (Err reason) (error.Refused fault) refuses = cc refuses

pub record_refused : (facts : Facts) (was : HeldFacts) (fields : List (List ℕ)) (e : TraceError) → was ≡ tell facts → Refuses e (numbered (was.count + 1) (held.step_of was fields))
    → Refuses e (numbered (facts.count + 1) (step_by grammar taken facts fields))
record_refused facts was fields e told refuses = refused_so (facts.count + 1) (step_by grammar taken facts fields) e (rw (told, step_same facts fields) at refuses)

-- a fault of the rows is one of the text
pub text_refused : (e : TraceError) (rows : Result (List PageRow) TraceFault) → Refuses e rows → Refuses e (text_by rows)
text_refused error.Memory rows refuses = tt
text_refused (error.Refused fault) rows refuses = rw refuses refl

-- the end of the records
pub text_ends : (facts : Facts) → held.ends (tell facts) ≡ text_by (ends facts)
unfolding report_text
text_ends facts = by (facts.count == 0)
  where
    by : (none : Bool) → (if none then Err (record { line = 1; reason = reason.Kind }) else Ok ((header_line ++ told_lines (told_of facts.rows)) ++ premises_line (failed_of facts.rows)))
        ≡ text_by (if none then Err (record { line = 1; reason = reason.Kind }) else Ok facts.rows)
    by true = refl
    by false = ap (λ (text : List ℕ). text_so text) (append_assoc header_line (told_lines (told_of facts.rows)) (premises_line (failed_of facts.rows)))
      where
        text_so : List ℕ → Result (List ℕ) TraceFault
        text_so text = Ok text
