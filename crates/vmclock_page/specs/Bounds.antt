-- What every `Page` keeps: it states a size that holds it and an even sequence count, and its numbers fit their fields.
use Rattle.std.specs.Prelude.{◌≡◌, ◌≤◌, ◌<◌, ◌^◌, ◌%◌}
use Rattle.vmclock_page.specs.ClockPage.{ClockPage}
use Rattle.vmclock_page.specs.declared.layout.TheConstants.{PAGE_BYTES}

-- bytes 0 to 15
pub record HeaderFits (p : ClockPage) : Type 0 where
  pub large : PAGE_BYTES ≤ p.size
  pub even : p.seq_count % 2 ≡ 0
  pub size : p.size < 2 ^ 32
  pub counter_id : p.counter_id < 2 ^ 8
  pub time_type : p.time_type < 2 ^ 8
  pub seq_count : p.seq_count < 2 ^ 32

-- bytes 16 to 39
pub record StatusFits (p : ClockPage) : Type 0 where
  pub disruption_marker : p.disruption_marker < 2 ^ 64
  pub flags : p.flags < 2 ^ 64
  pub clock_status : p.clock_status < 2 ^ 8
  pub leap_second_smearing_hint : p.leap_second_smearing_hint < 2 ^ 8
  pub tai_offset_sec : p.tai_offset_sec < 2 ^ 16
  pub leap_indicator : p.leap_indicator < 2 ^ 8
  pub counter_period_shift : p.counter_period_shift < 2 ^ 8

-- bytes 40 to 71
pub record CounterFits (p : ClockPage) : Type 0 where
  pub counter_value : p.counter_value < 2 ^ 64
  pub counter_period_frac_sec : p.counter_period_frac_sec < 2 ^ 64
  pub counter_period_esterror_rate_frac_sec : p.counter_period_esterror_rate_frac_sec < 2 ^ 64
  pub counter_period_maxerror_rate_frac_sec : p.counter_period_maxerror_rate_frac_sec < 2 ^ 64

-- bytes 72 to 103
pub record TimeFits (p : ClockPage) : Type 0 where
  pub time_sec : p.time_sec < 2 ^ 64
  pub time_frac_sec : p.time_frac_sec < 2 ^ 64
  pub time_esterror_nanosec : p.time_esterror_nanosec < 2 ^ 64
  pub time_maxerror_nanosec : p.time_maxerror_nanosec < 2 ^ 64

-- the whole page
pub record KeepsBounds (p : ClockPage) : Type 0 where
  pub header : HeaderFits p
  pub status : StatusFits p
  pub counter : CounterFits p
  pub time : TimeFits p
