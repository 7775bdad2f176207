-- The VMClock page of this profile: 104 bytes, little-endian, by the places of its fields. The fields are those of
-- vmclock-abi.h; their places are this project's own.
use Rattle.std.specs.Prelude.{◌≡◌, ℕ, ◌≤◌, ◌%◌, Bool, List, [], ◌∷◌, ◌++◌, length, Option, Some, None, Result, Ok, Err, nat_le, ◌==◌, if◌then◌else◌}
use Rattle.clock_gate.specs.FirstFault.{first_fault, unless}
use Rattle.vmclock_page.specs.Numbers.{number, spelled}
use Rattle.vmclock_page.specs.ClockPage.{ClockPage}
use Rattle.vmclock_page.specs.declared.layout.TheConstants.{MAGIC, VERSION, PAGE_BYTES}
use Rattle.vmclock_page.specs.declared.fault.PageFault.{PageFault}
use Rattle.vmclock_page.specs.declared.fault.PageFault.TheVariants as fault

-- the numbers at their places
abbrev pub page_at : List ℕ → ClockPage
page_at bytes = record {
  size = number 4 4 bytes;
  counter_id = number 1 10 bytes;
  time_type = number 1 11 bytes;
  seq_count = number 4 12 bytes;
  disruption_marker = number 8 16 bytes;
  flags = number 8 24 bytes;
  clock_status = number 1 34 bytes;
  leap_second_smearing_hint = number 1 35 bytes;
  tai_offset_sec = number 2 36 bytes;
  leap_indicator = number 1 38 bytes;
  counter_period_shift = number 1 39 bytes;
  counter_value = number 8 40 bytes;
  counter_period_frac_sec = number 8 48 bytes;
  counter_period_esterror_rate_frac_sec = number 8 56 bytes;
  counter_period_maxerror_rate_frac_sec = number 8 64 bytes;
  time_sec = number 8 72 bytes;
  time_frac_sec = number 8 80 bytes;
  time_esterror_nanosec = number 8 88 bytes;
  time_maxerror_nanosec = number 8 96 bytes;
}

-- the bytes stand for this page
pub record IsClockPage (bytes : List ℕ) (p : ClockPage) : Type 0 where
  pub long : PAGE_BYTES ≤ length bytes
  pub magic : number 4 0 bytes ≡ MAGIC
  pub size : PAGE_BYTES ≤ p.size
  pub version : number 2 8 bytes ≡ VERSION
  pub even : p.seq_count % 2 ≡ 0
  pub fields : p ≡ page_at bytes

-- what is tested, in order, each with the fault where it does not hold
abbrev pub tests : List ℕ → List (Bool × PageFault)
tests bytes =
    (nat_le PAGE_BYTES (length bytes), fault.Short)
    ∷ (number 4 0 bytes == MAGIC, fault.Magic)
    ∷ (nat_le PAGE_BYTES (number 4 4 bytes), fault.Size (number 4 4 bytes))
    ∷ (number 2 8 bytes == VERSION, fault.Version (number 2 8 bytes))
    ∷ (number 4 12 bytes % 2 == 0, fault.Odd (number 4 12 bytes))
    ∷ []

-- what reading the bytes gives
unfoldable pub page_of : List ℕ → Result ClockPage PageFault
page_of bytes = unless (first_fault (tests bytes)) (Ok (page_at bytes))

-- bytes 0 to 15: magic, size, version, counter, kind of time, sequence count
unfoldable pub header_text : ClockPage → List ℕ
header_text p =
    spelled 4 MAGIC ++ spelled 4 p.size ++ spelled 2 VERSION ++ spelled 1 p.counter_id ++ spelled 1 p.time_type
    ++ spelled 4 p.seq_count

-- bytes 16 to 39: marker, flags, two pads, status, smearing hint, TAI offset, leap second, shift of the period
unfoldable pub status_text : ClockPage → List ℕ
status_text p =
    spelled 8 p.disruption_marker ++ spelled 8 p.flags ++ spelled 2 0 ++ spelled 1 p.clock_status
    ++ spelled 1 p.leap_second_smearing_hint ++ spelled 2 p.tai_offset_sec ++ spelled 1 p.leap_indicator
    ++ spelled 1 p.counter_period_shift

-- bytes 40 to 71: the counter, its period and the two errors of the period
unfoldable pub counter_text : ClockPage → List ℕ
counter_text p =
    spelled 8 p.counter_value ++ spelled 8 p.counter_period_frac_sec
    ++ spelled 8 p.counter_period_esterror_rate_frac_sec ++ spelled 8 p.counter_period_maxerror_rate_frac_sec

-- bytes 72 to 103: the time and its two errors
unfoldable pub time_text : ClockPage → List ℕ
time_text p =
    spelled 8 p.time_sec ++ spelled 8 p.time_frac_sec ++ spelled 8 p.time_esterror_nanosec
    ++ spelled 8 p.time_maxerror_nanosec

-- the bytes of a page, front to back
unfoldable pub page_text : ClockPage → List ℕ
page_text p = header_text p ++ status_text p ++ counter_text p ++ time_text p
