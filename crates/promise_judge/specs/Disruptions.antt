-- What a disruption excuses, and which disruption no page tells.
use Rattle.std.specs.Prelude.{ℕ, ◌+◌, ◌-◌, Bool, not, ◌&&◌, nat_lt, List, Option, is_some}
use Rattle.clock_gate.specs.declared.clock_row.ClockRow.{ClockRow}
use Rattle.clock_gate.specs.declared.trace.HostRow.{HostRow}
use Rattle.promise_judge.specs.Firsts.{first_in}
use Rattle.promise_judge.specs.Markers.{changes_at}
use Rattle.promise_judge.specs.Offsets.{breaks_drift_at}
use Rattle.promise_judge.specs.Positions.{is_disrupt_at, position_of}

-- a disruption after host position i stands between clock row n and the row before it
abbrev pub is_excused : List HostRow → (i n : ℕ) → Bool
is_excused host i n = is_some (first_in (λ p. is_disrupt_at host p && nat_lt i p) (position_of host (n - 1) + 1) (position_of host n))

-- the drift is broken from the row before clock row n to row n, and no disruption after host position i excuses it
abbrev pub is_drifting : (drift : ℕ) → List ClockRow → List HostRow → (i n : ℕ) → Bool
is_drifting drift clock host i n = breaks_drift_at drift clock n && not (is_excused host i n)

-- a page row after host position p, finished at the marker load, has another marker than the page just before it
abbrev pub is_told : Option ℕ → List HostRow → (mark_at p : ℕ) → Bool
is_told start host mark_at p = is_some (first_in (changes_at start host) (p + 1) (mark_at + 1))

-- a disruption at host position p that no page told before the marker load
abbrev pub is_hidden : Option ℕ → List HostRow → (mark_at p : ℕ) → Bool
is_hidden start host mark_at p = is_disrupt_at host p && not (is_told start host mark_at p)
