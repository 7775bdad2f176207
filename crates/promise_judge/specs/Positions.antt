-- Where rows stand among the host's rows, which are counted from 1.
use Rattle.std.specs.Prelude.{ℕ, ◌+◌, ◌-◌, ◌==◌, Bool, true, false, if◌then◌else◌, List, [], ◌∷◌, slice_index_or}
use Rattle.clock_gate.specs.declared.trace.HostRow.{HostRow}
use Rattle.clock_gate.specs.declared.trace.HostRow.TheVariants.{Clock, Page, Disrupt}

-- the row at this host position
abbrev pub host_row : List HostRow → ℕ → HostRow
host_row host p = slice_index_or host (p - 1) (Clock 0)

abbrev pub is_disrupt : HostRow → Bool
is_disrupt (Clock number) = false
is_disrupt (Page words) = false
is_disrupt Disrupt = true

abbrev pub is_disrupt_at : List HostRow → ℕ → Bool
is_disrupt_at host p = is_disrupt (host_row host p)

abbrev pub is_clock : ℕ → HostRow → Bool
is_clock n (Clock number) = number == n
is_clock n (Page words) = false
is_clock n Disrupt = false

-- the host position of clock row n among rows of which the first stands at this one; past their end where they lack it
abbrev pub position_from : ℕ → List HostRow → ℕ → ℕ
position_from at [] n = at
position_from at (row ∷ rows) n = if is_clock n row then at else position_from (at + 1) rows n

-- the host position of clock row n
abbrev pub position_of : List HostRow → ℕ → ℕ
position_of host n = position_from 1 host n
