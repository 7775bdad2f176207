-- A report in the making, row by row.
use Rattle.std.proofs.Common.{◌≡◌, ℕ, ◌+◌, ◌≤◌, List, [], ◌∷◌, ◌++◌, length, Option, Some, None, refl, sym, ap, ◌∙◌, arith, append_assoc}
use Rattle.std.specs.Prelude.{map}
use Rattle.std.specs.List.{cons_option}
use Rattle.std.proofs.lemmas.List.{append-nil, length-append, map-append}
use Rattle.vmclock_time.specs.Making.{Made, failed_first, failed_more, nothing_made, reads_more, with_row}
use Rattle.vmclock_time.specs.PageReport.{failed_of, told_more, told_of, told_to}
use Rattle.vmclock_time.specs.Premises.{failed_or, failure_of, first_failed}
use Rattle.vmclock_time.specs.Reads.{KnownPage, PageRead, page_after, read_in, reads_from, reads_of}
use Rattle.vmclock_time.specs.declared.rows.PageFailed.{PageFailed}
use Rattle.vmclock_time.specs.declared.rows.PageRow.{PageRow}
use Rattle.vmclock_time.specs.declared.rows.PageTold.{PageTold}
use Rattle.vmclock_time.specs.declared.rows.PageWhy.{PageWhy}

-- the first failure of the reads so far, else one of those to come
abbrev pub found : Option PageFailed → Option PageFailed → Option PageFailed
found (Some failed) later = Some failed
found None later = later

-- what was told and made of the rows so far, with what the rest comes to, is the report of all
pub record Shows (rows : List PageRow) (so_far : List PageTold) (m : Made) (rest : List PageRow) : Type 0 where
  pub told : so_far ++ map told_to (reads_from m.last rest) ≡ told_of rows
  pub failed : found m.failed (first_failed (m.reads + 1) (reads_from m.last rest)) ≡ failed_of rows

pub shows_none : (rows : List PageRow) → Shows rows [] nothing_made rows
unfolding told_of failed_of
shows_none rows = record { told = refl; failed = refl }

told_on : (told : List PageTold) (o : Option PageRead) (reads : List PageRead) → told_more told o ++ map told_to reads ≡ told ++ map told_to (cons_option o reads)
told_on told None reads = refl
told_on told (Some read) reads = append_assoc told (told_to read ∷ []) (map told_to reads)

found_on : (failed : Option PageFailed) (n : ℕ) (why : Option PageWhy) (later : Option PageFailed) → found (failed_first failed n why) later ≡ found failed (failed_or n why later)
found_on (Some failed) n why later = refl
found_on None n None later = refl
found_on None n (Some why) later = refl

failed_on : (n : ℕ) (failed : Option PageFailed) (o : Option PageRead) (reads : List PageRead)
    → found (failed_more failed (n + 1) o) (first_failed (reads_more n o + 1) reads) ≡ found failed (first_failed (n + 1) (cons_option o reads))
unfolding first_failed
failed_on n failed None reads = refl
failed_on n failed (Some read) reads = found_on failed (n + 1) (failure_of read) (first_failed (n + 1 + 1) reads)

pub shows_more : (rows : List PageRow) (so_far : List PageTold) (m : Made) (row : PageRow) (rest : List PageRow) → Shows rows so_far m (row ∷ rest) → Shows rows (told_more so_far (read_in m.last row)) (with_row m row) rest
unfolding reads_from
shows_more rows so_far m row rest was = record {
  told = told_on so_far (read_in m.last row) (reads_from (page_after m.last row) rest) ∙ was.told;
  failed = failed_on m.reads m.failed (read_in m.last row) (reads_from (page_after m.last row) rest) ∙ was.failed;
}

pub shows_all : (rows : List PageRow) (so_far : List PageTold) (m : Made) → Shows rows so_far m [] → (so_far ≡ told_of rows) × (m.failed ≡ failed_of rows)
unfolding reads_from first_failed
shows_all rows so_far m was = (sym (append-nil so_far) ∙ was.told, alone m.failed ∙ was.failed)
  where
    alone : (failed : Option PageFailed) → failed ≡ found failed None
    alone None = refl
    alone (Some f) = refl

-- one read more at most
pub reads_most : (n : ℕ) (o : Option PageRead) → reads_more n o ≤ n + 1
reads_most n None = omega arith
reads_most n (Some read) = omega arith

-- ---- What is made of a list of rows

-- the last page of rows after this one
unfoldable pub last_from : Option KnownPage → List PageRow → Option KnownPage
last_from last [] = last
last_from last (row ∷ rows) = last_from (page_after last row) rows

abbrev pub made_of : List PageRow → Made
made_of rows = record { reads = length (reads_of rows); failed = failed_of rows; last = last_from None rows }

last_more : (last : Option KnownPage) (rows : List PageRow) (row : PageRow) → last_from last (rows ++ row ∷ []) ≡ page_after (last_from last rows) row
unfolding last_from
last_more last [] row = refl
last_more last (first ∷ rows) row = last_more (page_after last first) rows row

-- a read more at the end, where there is one
ended : List PageRead → Option PageRead → List PageRead
ended reads None = reads
ended reads (Some read) = reads ++ read ∷ []

ended_on : (o : Option PageRead) (reads : List PageRead) (more : Option PageRead) → cons_option o (ended reads more) ≡ ended (cons_option o reads) more
unfolding ended
ended_on None reads more = refl
ended_on (Some read) reads None = refl
ended_on (Some read) reads (Some other) = refl

reads_on : (last : Option KnownPage) (rows : List PageRow) (row : PageRow) → reads_from last (rows ++ row ∷ []) ≡ ended (reads_from last rows) (read_in (last_from last rows) row)
unfolding reads_from last_from ended
reads_on last [] row = alone (read_in last row)
  where
    alone : (o : Option PageRead) → cons_option o [] ≡ ended [] o
    alone None = refl
    alone (Some read) = refl
reads_on last (first ∷ rows) row =
    ap (λ (reads : List PageRead). cons_option (read_in last first) reads) (reads_on (page_after last first) rows row)
    ∙ ended_on (read_in last first) (reads_from (page_after last first) rows) (read_in (last_from (page_after last first) rows) row)

first_or : (n m : ℕ) (why last : Option PageWhy) (later : Option PageFailed) → failed_or n why (failed_first later m last) ≡ failed_first (failed_or n why later) m last
first_or n m None last later = refl
first_or n m (Some why) last later = refl

failed_end : (n : ℕ) (reads : List PageRead) (read : PageRead) → first_failed n (reads ++ read ∷ []) ≡ failed_first (first_failed n reads) (n + length reads) (failure_of read)
unfolding first_failed
failed_end n [] read = alone (failure_of read)
  where
    alone : (why : Option PageWhy) → failed_or n why None ≡ failed_first None (n + 0) why
    alone None = refl
    alone (Some why) = let same : n ≡ n + 0 = omega arith in ap (λ (k : ℕ). failed_by k why) same
      where
        failed_by : ℕ → PageWhy → Option PageFailed
        failed_by k why = Some (record { read = k; why = why })
failed_end n (first ∷ reads) read =
    let next : n + 1 + length reads ≡ n + length (first ∷ reads) = omega arith in
    ap (λ (later : Option PageFailed). failed_or n (failure_of first) later) (failed_end (n + 1) reads read)
    ∙ first_or n (n + 1 + length reads) (failure_of first) (failure_of read) (first_failed (n + 1) reads)
    ∙ ap (λ (k : ℕ). failed_first (failed_or n (failure_of first) (first_failed (n + 1) reads)) k (failure_of read)) next

length_ended : (reads : List PageRead) (o : Option PageRead) → length (ended reads o) ≡ reads_more (length reads) o
unfolding ended
length_ended reads None = refl
length_ended reads (Some read) = length-append reads (read ∷ [])

failed_ended : (reads : List PageRead) (o : Option PageRead) → first_failed 1 (ended reads o) ≡ failed_more (first_failed 1 reads) (length reads + 1) o
unfolding ended
failed_ended reads None = refl
failed_ended reads (Some read) =
    let number : 1 + length reads ≡ length reads + 1 = omega arith in
    failed_end 1 reads read ∙ ap (λ (k : ℕ). failed_first (first_failed 1 reads) k (failure_of read)) number

told_ended : (reads : List PageRead) (o : Option PageRead) → map told_to (ended reads o) ≡ told_more (map told_to reads) o
unfolding ended
told_ended reads None = refl
told_ended reads (Some read) = map-append told_to reads (read ∷ [])

-- one row more
pub made_more : (rows : List PageRow) (row : PageRow) → made_of (rows ++ row ∷ []) ≡ with_row (made_of rows) row
unfolding failed_of
made_more rows row =
    rw (reads_on None rows row, last_more None rows row, length_ended (reads_of rows) (read_in (last_from None rows) row), failed_ended (reads_of rows) (read_in (last_from None rows) row)) refl

pub told_of-more : (rows : List PageRow) (row : PageRow) → told_of (rows ++ row ∷ []) ≡ told_more (told_of rows) (read_in (last_from None rows) row)
unfolding told_of
told_of-more rows row = rw (reads_on None rows row) (told_ended (reads_of rows) (read_in (last_from None rows) row))
