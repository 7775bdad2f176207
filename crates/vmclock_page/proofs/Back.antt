-- What is written is read again.
use Rattle.std.proofs.Common.{◌≡◌, true, length, drop, Option, None, Ok, refl, sym, ap, ◌∙◌, arith}
use Rattle.std.specs.Prelude.{nat_le}
use Rattle.std.proofs.lemmas.Bool.Decides.{nat_tests}
use Rattle.byteorder.specs.Numbers.{little_number-reads_back}
use Rattle.clock_gate.specs.FirstFault.{first_fault, unless}
use Rattle.vmclock_page.specs.ClockPage.{ClockPage}
use Rattle.vmclock_page.specs.Bounds.{KeepsBounds}
use Rattle.vmclock_page.specs.Numbers.{number, spelled}
use Rattle.vmclock_page.specs.Page.{IsClockPage, page_at, page_of, header_text, status_text, counter_text, time_text, page_text, tests}
use Rattle.vmclock_page.specs.declared.fault.PageFault.{PageFault}
use Rattle.vmclock_page.specs.declared.layout.TheConstants.{MAGIC, VERSION}

pub pads_back : (p : ClockPage) → number 2 32 (page_text p) ≡ 0
unfolding spelled header_text status_text counter_text time_text page_text number
pads_back p = refl

module _ (p : ClockPage) (kept : KeepsBounds p) where
  pub whole : length (page_text p) ≡ 104
  unfolding spelled header_text status_text counter_text time_text page_text number
  whole = refl

  pub magic_back : number 4 0 (page_text p) ≡ MAGIC
  unfolding spelled header_text status_text counter_text time_text page_text number
  magic_back = refl

  pub version_back : number 2 8 (page_text p) ≡ VERSION
  unfolding spelled header_text status_text counter_text time_text page_text number
  version_back = refl

  size_back : number 4 4 (page_text p) ≡ p.size
  unfolding spelled header_text status_text counter_text time_text page_text number
  size_back = little_number-reads_back 4 p.size (drop 8 (page_text p)) kept.header.size

  counter_id_back : number 1 10 (page_text p) ≡ p.counter_id
  unfolding spelled header_text status_text counter_text time_text page_text number
  counter_id_back = little_number-reads_back 1 p.counter_id (drop 11 (page_text p)) kept.header.counter_id

  time_type_back : number 1 11 (page_text p) ≡ p.time_type
  unfolding spelled header_text status_text counter_text time_text page_text number
  time_type_back = little_number-reads_back 1 p.time_type (drop 12 (page_text p)) kept.header.time_type

  seq_count_back : number 4 12 (page_text p) ≡ p.seq_count
  unfolding spelled header_text status_text counter_text time_text page_text number
  seq_count_back = little_number-reads_back 4 p.seq_count (drop 16 (page_text p)) kept.header.seq_count

  disruption_marker_back : number 8 16 (page_text p) ≡ p.disruption_marker
  unfolding spelled header_text status_text counter_text time_text page_text number
  disruption_marker_back =
      little_number-reads_back 8 p.disruption_marker (drop 24 (page_text p)) kept.status.disruption_marker

  flags_back : number 8 24 (page_text p) ≡ p.flags
  unfolding spelled header_text status_text counter_text time_text page_text number
  flags_back = little_number-reads_back 8 p.flags (drop 32 (page_text p)) kept.status.flags

  clock_status_back : number 1 34 (page_text p) ≡ p.clock_status
  unfolding spelled header_text status_text counter_text time_text page_text number
  clock_status_back = little_number-reads_back 1 p.clock_status (drop 35 (page_text p)) kept.status.clock_status

  leap_second_smearing_hint_back : number 1 35 (page_text p) ≡ p.leap_second_smearing_hint
  unfolding spelled header_text status_text counter_text time_text page_text number
  leap_second_smearing_hint_back =
      little_number-reads_back 1 p.leap_second_smearing_hint (drop 36 (page_text p)) kept.status.leap_second_smearing_hint

  tai_offset_sec_back : number 2 36 (page_text p) ≡ p.tai_offset_sec
  unfolding spelled header_text status_text counter_text time_text page_text number
  tai_offset_sec_back = little_number-reads_back 2 p.tai_offset_sec (drop 38 (page_text p)) kept.status.tai_offset_sec

  leap_indicator_back : number 1 38 (page_text p) ≡ p.leap_indicator
  unfolding spelled header_text status_text counter_text time_text page_text number
  leap_indicator_back = little_number-reads_back 1 p.leap_indicator (drop 39 (page_text p)) kept.status.leap_indicator

  counter_period_shift_back : number 1 39 (page_text p) ≡ p.counter_period_shift
  unfolding spelled header_text status_text counter_text time_text page_text number
  counter_period_shift_back =
      little_number-reads_back 1 p.counter_period_shift (drop 40 (page_text p)) kept.status.counter_period_shift

  counter_value_back : number 8 40 (page_text p) ≡ p.counter_value
  unfolding spelled header_text status_text counter_text time_text page_text number
  counter_value_back = little_number-reads_back 8 p.counter_value (drop 48 (page_text p)) kept.counter.counter_value

  counter_period_frac_sec_back : number 8 48 (page_text p) ≡ p.counter_period_frac_sec
  unfolding spelled header_text status_text counter_text time_text page_text number
  counter_period_frac_sec_back =
      little_number-reads_back 8 p.counter_period_frac_sec (drop 56 (page_text p)) kept.counter.counter_period_frac_sec

  counter_period_esterror_rate_frac_sec_back : number 8 56 (page_text p) ≡ p.counter_period_esterror_rate_frac_sec
  unfolding spelled header_text status_text counter_text time_text page_text number
  counter_period_esterror_rate_frac_sec_back =
      little_number-reads_back 8 p.counter_period_esterror_rate_frac_sec (drop 64 (page_text p)) kept.counter.counter_period_esterror_rate_frac_sec

  counter_period_maxerror_rate_frac_sec_back : number 8 64 (page_text p) ≡ p.counter_period_maxerror_rate_frac_sec
  unfolding spelled header_text status_text counter_text time_text page_text number
  counter_period_maxerror_rate_frac_sec_back =
      little_number-reads_back 8 p.counter_period_maxerror_rate_frac_sec (drop 72 (page_text p)) kept.counter.counter_period_maxerror_rate_frac_sec

  time_sec_back : number 8 72 (page_text p) ≡ p.time_sec
  unfolding spelled header_text status_text counter_text time_text page_text number
  time_sec_back = little_number-reads_back 8 p.time_sec (drop 80 (page_text p)) kept.time.time_sec

  time_frac_sec_back : number 8 80 (page_text p) ≡ p.time_frac_sec
  unfolding spelled header_text status_text counter_text time_text page_text number
  time_frac_sec_back = little_number-reads_back 8 p.time_frac_sec (drop 88 (page_text p)) kept.time.time_frac_sec

  time_esterror_nanosec_back : number 8 88 (page_text p) ≡ p.time_esterror_nanosec
  unfolding spelled header_text status_text counter_text time_text page_text number
  time_esterror_nanosec_back =
      little_number-reads_back 8 p.time_esterror_nanosec (drop 96 (page_text p)) kept.time.time_esterror_nanosec

  time_maxerror_nanosec_back : number 8 96 (page_text p) ≡ p.time_maxerror_nanosec
  unfolding spelled header_text status_text counter_text time_text page_text number
  time_maxerror_nanosec_back =
      little_number-reads_back 8 p.time_maxerror_nanosec (drop 104 (page_text p)) kept.time.time_maxerror_nanosec

  pub fields_back : page_at (page_text p) ≡ p
  fields_back =
      rw (size_back, counter_id_back, time_type_back, seq_count_back, disruption_marker_back, flags_back)
      (rw (clock_status_back, leap_second_smearing_hint_back, tai_offset_sec_back, leap_indicator_back)
      (rw (counter_period_shift_back, counter_value_back, counter_period_frac_sec_back)
      (rw (counter_period_esterror_rate_frac_sec_back, counter_period_maxerror_rate_frac_sec_back)
      (rw (time_sec_back, time_frac_sec_back, time_esterror_nanosec_back, time_maxerror_nanosec_back) refl))))

  pub stands : IsClockPage (page_text p) p
  stands = record {
    long = omega (arith, whole);
    magic = magic_back;
    size = kept.header.large;
    version = version_back;
    even = kept.header.even;
    fields = sym fields_back;
  }

  pub read_back : page_of (page_text p) ≡ Ok p
  unfolding page_of
  read_back =
      let large : nat_le 104 p.size ≡ true = let h = kept.header.large in grind (arith, nat_tests) in
      let none : first_fault (tests (page_text p)) ≡ None = rw (whole, magic_back, version_back, size_back, seq_count_back, large, kept.header.even) refl in
      ap (λ (fault : Option PageFault). unless fault (Ok (page_at (page_text p)))) none ∙ ap Ok fields_back
