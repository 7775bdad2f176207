-- Where true time keeps what the page promises, it lies in the interval; and the failure that is named is the first.
use Rattle.std.proofs.Common.{◌≡◌, ℕ, suc, Bool, true, false, ◌+◌, ◌-◌, ◌*◌, ◌<◌, ◌≤◌, List, [], ◌∷◌, take, Option, Some, None, refl, sym, ◌∙◌, ap, arith, ℤ, pos, ◌*ℤ◌, ◌≤ℤ◌}
use Rattle.std.specs.Prelude.{IfNone, IfSome, if◌then◌else◌, is_none, map, slice_get}
use Rattle.std.proofs.lemmas.Bool.Decides.{nat_tests}
use Rattle.std.proofs.lemmas.Int.{ints}
use Rattle.std.proofs.lemmas.List.Elements.{All-cons, All-nil}
use Rattle.std.proofs.lemmas.Nat.{pow_pos}
use Rattle.std.proofs.lemmas.Option.{slice_get-map}
use Rattle.std.proofs.Math.Nat.{le_of_mul-le-mul_right}
use borrow.Author.Differences.{up, down}
use Rattle.vmclock_page.specs.ClockPage.{ClockPage}
use Rattle.vmclock_time.specs.PageReport.{told_as, told_of, told_to, failed_of}
use Rattle.vmclock_time.specs.PageTime.{nanosecond, start_of, slack_of, elapsed_of, drift_of, lower_end, upper_end, earliest_of, latest_of, interval_unless, page_time_of}
use Rattle.vmclock_time.specs.Premises.{AllHold, AreSafe, HasTruth, IsFirstFailed, failed_or, failure_by, failure_of, first_failed, page_holds, rate_holds}
use Rattle.vmclock_time.specs.Reads.{PageRead, reads_of}
use Rattle.vmclock_time.specs.Refusals.{first_refusal}
use Rattle.vmclock_time.specs.declared.fault.PageTimeFault.{PageTimeFault}
use Rattle.vmclock_time.specs.declared.rows.PageFailed.{PageFailed}
use Rattle.vmclock_time.specs.declared.rows.PageRow.{PageRow}
use Rattle.vmclock_time.specs.declared.rows.PageTold.{PageTold}
use Rattle.vmclock_time.specs.declared.rows.PageTold.TheVariants.{Time}
use Rattle.vmclock_time.specs.declared.rows.PageWhy.{PageWhy}
use Rattle.vmclock_time.proofs.Ends.{earliest_of-is, latest_of-is}
use Rattle.vmclock_time.proofs.Scaled.{times}

-- a positive factor is taken away
least : (a b : ℤ) (k : ℕ) → 0 < k → (a *ℤ pos k) ≤ℤ (b *ℤ pos k) → a ≤ℤ b
least a b k positive h =
    let more : (up a + down b) * k ≤ (down a + up b) * k = omega (arith, ints, times a k, times b k, h) in
    omega (arith, ints, le_of_mul-le-mul_right more positive)

inside : (p : ClockPage) (counter started truth : ℕ) → page_holds p started ≡ true → rate_holds p counter started truth ≡ true
    → (earliest_of p counter ≤ℤ pos truth) × (pos truth ≤ℤ latest_of p counter)
unfolding lower_end upper_end
inside p counter started truth page rate =
    let positive = pow_pos (64 + p.counter_period_shift) in
    let page_low : started * nanosecond p ≤ start_of p + slack_of p = grind (arith, nat_tests, page) in
    let page_high : start_of p ≤ started * nanosecond p + slack_of p = grind (arith, nat_tests, page) in
    let rate_low : truth * nanosecond p ≤ started * nanosecond p + elapsed_of p counter + drift_of p counter = grind (arith, nat_tests, rate) in
    let rate_high : started * nanosecond p + elapsed_of p counter ≤ truth * nanosecond p + drift_of p counter = grind (arith, nat_tests, rate) in
    let first = (earliest_of-is p counter).not_above in
    let second = (latest_of-is p counter).not_below in (
      least (earliest_of p counter) (pos truth) (nanosecond p) positive (omega (arith, ints, page_high, rate_high, first)),
      least (pos truth) (latest_of p counter) (nanosecond p) positive (omega (arith, ints, page_low, rate_low, second)),
    )

-- a read that was told a time and passes the tests
safe_read : (read : PageRead) (earliest latest : ℤ) → told_to read ≡ Time earliest latest → failure_of read ≡ None → HasTruth read.truth earliest latest
unfolding told_to page_time_of failure_of
safe_read read earliest latest told passes = by (first_refusal read.page read.counter) told passes
  where
    ends_at : Time (earliest_of read.page read.counter) (latest_of read.page read.counter) ≡ Time earliest latest
        → (earliest_of read.page read.counter ≡ earliest) × (latest_of read.page read.counter ≡ latest)
    ends_at e = (cc e, cc e)

    by_tests : (started truth : ℕ) (page rate : Bool) → page_holds read.page started ≡ page → rate_holds read.page read.counter started truth ≡ rate
        → Time (earliest_of read.page read.counter) (latest_of read.page read.counter) ≡ Time earliest latest
        → failure_by read.page read.counter (Some started) (Some truth) ≡ None → HasTruth (Some truth) earliest latest
    by_tests started truth true true page rate told passes =
        let in_it = inside read.page read.counter started truth page rate in
        let (first, second) = ends_at told in
        (rw first at in_it.0, rw second at in_it.1)
    by_tests started truth true false page rate told passes = absurd (cc (rw (page, rate) at passes))
    by_tests started truth false true page rate told passes = absurd (cc (rw page at passes))
    by_tests started truth false false page rate told passes = absurd (cc (rw page at passes))

    by_times : (started truth : Option ℕ) → Time (earliest_of read.page read.counter) (latest_of read.page read.counter) ≡ Time earliest latest
        → failure_by read.page read.counter started truth ≡ None → HasTruth truth earliest latest
    by_times None truth told passes = absurd (cc passes)
    by_times (Some started) None told passes = absurd (cc passes)
    by_times (Some started) (Some truth) told passes = by_tests started truth (page_holds read.page started) (rate_holds read.page read.counter started truth) refl refl told passes

    by : (o : Option PageTimeFault) → told_as (interval_unless o read.page read.counter) ≡ Time earliest latest
        → (if is_none o then failure_by read.page read.counter read.started read.truth else None) ≡ None → HasTruth read.truth earliest latest
    by (Some fault) told passes = absurd (cc told)
    by None told passes = by_times read.started read.truth told passes

pub safe_of : (rows : List PageRow) (told : List PageTold) → told ≡ told_of rows → AreSafe (reads_of rows) told
unfolding told_of
safe_of rows told is = λ i read earliest latest at given passes.
    let here : slice_get told i ≡ Some (told_to read) = rw (is, slice_get-map told_to (reads_of rows) i, at) refl in
    let same : told_to read ≡ Time earliest latest = cc (sym here ∙ given) in
    safe_read read earliest latest same passes

-- the failure that is named, where reads are numbered from n on
record IsFirstFrom (n : ℕ) (reads : List PageRead) (failed : PageFailed) : Type 0 where
  counted : n ≤ failed.read
  fails : slice_get (map failure_of reads) (failed.read - n) ≡ Some (Some failed.why)
  earlier : AllHold (take (failed.read - n) reads)

first_from : (n : ℕ) (reads : List PageRead) (failed : PageFailed) → first_failed n reads ≡ Some failed → IsFirstFrom n reads failed
unfolding first_failed
first_from n [] failed is = absurd (cc is)
first_from n (read ∷ reads) failed is = by (failure_of read) refl is (first_from (n + 1) reads failed)
  where
    by : (o : Option PageWhy) → failure_of read ≡ o → failed_or n o (first_failed (n + 1) reads) ≡ Some failed
        → (first_failed (n + 1) reads ≡ Some failed → IsFirstFrom (n + 1) reads failed) → IsFirstFrom n (read ∷ reads) failed
    by (Some why) fails is more =
        let number : failed.read ≡ n = ap (λ (o : Option PageFailed). read_of o) (sym is) in
        let reason : failed.why ≡ why = ap (λ (o : Option PageFailed). why_of o) (sym is) in
        let start : failed.read - n ≡ 0 = omega (arith, number) in
        record {
          counted = omega (arith, number);
          fails = rw (start, fails, reason) refl;
          earlier = rw start (All-nil (λ (r : PageRead). failure_of r ≡ None));
        }
      where
        read_of : Option PageFailed → ℕ
        read_of None = 0
        read_of (Some f) = f.read

        why_of : Option PageFailed → PageWhy
        why_of None = why
        why_of (Some f) = f.why
    by None holds is more =
        let later = more is in
        let counted = later.counted in
        let next : failed.read - n ≡ suc (failed.read - (n + 1)) = omega (arith, counted) in
        record {
          counted = omega (arith, counted);
          fails = rw next later.fails;
          earlier = rw next (All-cons (λ (r : PageRead). failure_of r ≡ None) read (take (failed.read - (n + 1)) reads) holds later.earlier);
        }

none_from : (n : ℕ) (reads : List PageRead) → first_failed n reads ≡ None → AllHold reads
unfolding first_failed
none_from n [] is = All-nil (λ (r : PageRead). failure_of r ≡ None)
none_from n (read ∷ reads) is = by (failure_of read) refl is (none_from (n + 1) reads)
  where
    by : (o : Option PageWhy) → failure_of read ≡ o → failed_or n o (first_failed (n + 1) reads) ≡ None → (first_failed (n + 1) reads ≡ None → AllHold reads) → AllHold (read ∷ reads)
    by (Some why) fails is more = absurd (cc is)
    by None holds is more = All-cons (λ (r : PageRead). failure_of r ≡ None) read reads holds (more is)

pub first_of : (rows : List PageRow) (failed : Option PageFailed) → failed ≡ failed_of rows → IfSome failed (IsFirstFailed (reads_of rows))
unfolding failed_of
first_of rows None is = tt
first_of rows (Some failed) is =
    let first = first_from 1 (reads_of rows) failed (sym is) in
    record { counted = first.counted; fails = first.fails; earlier = first.earlier }

pub held_of : (rows : List PageRow) (failed : Option PageFailed) → failed ≡ failed_of rows → IfNone failed (AllHold (reads_of rows))
unfolding failed_of
held_of rows None is = none_from 1 (reads_of rows) (sym is)
held_of rows (Some failed) is = tt
