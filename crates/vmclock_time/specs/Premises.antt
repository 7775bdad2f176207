-- What a page promises of a read, and whether true time keeps it.
use Rattle.std.specs.Prelude.{◌≡◌, ◌≤◌, ℕ, ◌+◌, ◌-◌, ◌*◌, nat_le, Bool, not, ◌&&◌, if◌then◌else◌, is_none, List, [], ◌∷◌, All, take, slice_get, map, Option, Some, None, ℤ, pos, ◌≤ℤ◌}
use Rattle.vmclock_page.specs.ClockPage.{ClockPage}
use Rattle.vmclock_time.specs.PageTime.{nanosecond, start_of, slack_of, elapsed_of, drift_of}
use Rattle.vmclock_time.specs.Reads.{PageRead}
use Rattle.vmclock_time.specs.Refusals.{first_refusal}
use Rattle.vmclock_time.specs.declared.rows.PageFailed.{PageFailed}
use Rattle.vmclock_time.specs.declared.rows.PageTold.{PageTold}
use Rattle.vmclock_time.specs.declared.rows.PageTold.TheVariants.{Time}
use Rattle.vmclock_time.specs.declared.rows.PageWhy.{PageWhy}
use Rattle.vmclock_time.specs.declared.rows.PageWhy.TheVariants as why

-- a and b differ by at most m
abbrev pub is_within : ℕ → ℕ → ℕ → Bool
is_within a b m = nat_le a (b + m) && nat_le b (a + m)

-- true time at the counter value is within the page's greatest error of the page's own time
abbrev pub page_holds : ClockPage → ℕ → Bool
page_holds p started = is_within (started * nanosecond p) (start_of p) (slack_of p)

-- as much true time went by as the ticks tell, within their greatest error
abbrev pub rate_holds : ClockPage → ℕ → ℕ → ℕ → Bool
rate_holds p counter started truth = is_within (truth * nanosecond p) (started * nanosecond p + elapsed_of p counter) (drift_of p counter)

-- the first of the tests that a read fails that was told a time
abbrev pub failure_by : ClockPage → ℕ → Option ℕ → Option ℕ → Option PageWhy
failure_by p counter None truth = Some why.Untold
failure_by p counter (Some started) None = Some why.Untold
failure_by p counter (Some started) (Some truth) =
    if not (page_holds p started) then Some why.Page
    else if not (rate_holds p counter started truth) then Some why.Rate
    else None

-- the same of any read: a refused one fails no test
unfoldable pub failure_of : PageRead → Option PageWhy
failure_of read = if is_none (first_refusal read.page read.counter) then failure_by read.page read.counter read.started read.truth else None

-- the first read that fails a test, with its first test, where the reads have the numbers from n on
abbrev pub failed_or : ℕ → Option PageWhy → Option PageFailed → Option PageFailed
failed_or n None later = later
failed_or n (Some why) later = Some (record { read = n; why = why })

unfoldable pub first_failed : ℕ → List PageRead → Option PageFailed
first_failed n [] = None
first_failed n (read ∷ reads) = failed_or n (failure_of read) (first_failed (n + 1) reads)

-- each of these reads passes
abbrev pub AllHold : List PageRead → Type 0
AllHold reads = All (λ read. failure_of read ≡ None) reads

-- the read of this number, counted from 1, fails this test, and each before it passes
pub record IsFirstFailed (reads : List PageRead) (failed : PageFailed) : Type 0 where
  pub counted : 1 ≤ failed.read
  pub fails : slice_get (map failure_of reads) (failed.read - 1) ≡ Some (Some failed.why)
  pub earlier : AllHold (take (failed.read - 1) reads)

-- true time is known, and from earliest to latest
abbrev pub HasTruth : Option ℕ → ℤ → ℤ → Type 0
HasTruth None earliest latest = ⊥
HasTruth (Some truth) earliest latest = (earliest ≤ℤ pos truth) × (pos truth ≤ℤ latest)

-- each read that was told a time and passes the tests has its true time in the interval that it was told
abbrev pub AreSafe : List PageRead → List PageTold → Type 0
AreSafe reads told =
    (i : ℕ) (read : PageRead) (earliest latest : ℤ) → slice_get reads i ≡ Some read → slice_get told i ≡ Some (Time earliest latest)
    → failure_of read ≡ None → HasTruth read.truth earliest latest
