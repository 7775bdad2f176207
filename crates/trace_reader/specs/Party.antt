-- The party that a field names.
use Rattle.std.specs.Prelude.{ℕ, ◌==◌, List, [], ◌∷◌, Option, Some, None, Result, codes, option_map, if◌then◌else◌}
use Rattle.std.specs.Str.{bytes_eq}
use Rattle.clock_gate.specs.declared.limits.TheConstants.{MOST_CLIENTS}
use Rattle.clock_gate.specs.declared.trace.Party.{Party}
use Rattle.clock_gate.specs.declared.trace.Party.TheVariants as parties
use Rattle.csv_records.specs.Fields.{number_in}
use Rattle.csv_records.specs.Parts.{part_at}
use Rattle.csv_records.specs.declared.reason.Reason.{Reason}
use Rattle.csv_records.specs.declared.reason.Reason.TheVariants as reasons

-- a client's number, which has no leading zeros
abbrev pub client_number : List ℕ → Option Party
client_number [] = None
client_number (digit ∷ digits) =
    if digit == 48 then None else option_map parties.Client (number_in 1 MOST_CLIENTS (digit ∷ digits))

-- the letter `c` and the client's number
abbrev pub client_named : List ℕ → Option Party
client_named [] = None
client_named (letter ∷ digits) = if letter == 99 then client_number digits else None

-- `h`, `d` or a client
unfoldable pub party_named : List ℕ → Option Party
party_named field =
    if bytes_eq field (codes "h") then Some parties.Host
    else if bytes_eq field (codes "d") then Some parties.Daemon
    else client_named field

-- the party at a place
abbrev pub party_part : ℕ → List (List ℕ) → Result Party Reason
party_part place fields = part_at reasons.Number party_named place fields
