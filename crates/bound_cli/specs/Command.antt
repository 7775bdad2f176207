-- The command that the words of a command line name, or the number of the first word that isn't allowed, from 1. A missing
-- word counts as the one after the last.
use Rattle.std.specs.Prelude.{◌≤◌, ℕ, ◌-◌, ◌^◌, Bool, true, false, List, [], ◌∷◌, codes, Option, Some, None, Result, Ok, Err, if◌then◌else◌}
use Rattle.std.specs.Str.{bytes_eq}
use Rattle.decode_text.specs.declared.what.What.TheVariants.{Reply, Page, Image}
use Rattle.bound_order.specs.declared.lease.TheConstants.{LONGEST_LEASE}
use Rattle.drill_day.specs.declared.limits.TheConstants.{FEWEST_DAY_POLLS, MOST_DAY_POLLS}
use Rattle.csv_records.specs.Fields.{number_in}
use Rattle.bound_cli.specs.declared.command.Command.{Command}
use Rattle.bound_cli.specs.declared.command.Command.TheVariants.{Replay, Decode, Pagetime, Agree, Audit, Order, Drill, DrillTrace}
use Rattle.bound_cli.specs.declared.times.Times.TheVariants.{Nanoseconds, Civil}

-- no word follows; one that does has this number
abbrev pub alone : Command → ℕ → List (List ℕ) → Result Command ℕ
alone command next [] = Ok command
alone command next (word ∷ words) = Err next

-- `replay` and `replay --civil`
abbrev pub replay_of : List (List ℕ) → Result Command ℕ
replay_of [] = Ok (Replay Nanoseconds)
replay_of (option ∷ words) = if bytes_eq option (codes "--civil") then alone (Replay Civil) 3 words else Err 2

-- `decode reply`, `decode page` and `decode image`
abbrev pub decode_of : List (List ℕ) → Result Command ℕ
decode_of [] = Err 2
decode_of (what ∷ words) =
    if bytes_eq what (codes "reply") then alone (Decode Reply) 3 words
    else if bytes_eq what (codes "page") then alone (Decode Page) 3 words
    else if bytes_eq what (codes "image") then alone (Decode Image) 3 words
    else Err 2

-- `order LENGTH`
abbrev pub ordering_for : Option ℕ → List (List ℕ) → Result Command ℕ
ordering_for None words = Err 2
ordering_for (Some length) words = alone (Order length) 3 words

abbrev pub ordering_of : List (List ℕ) → Result Command ℕ
ordering_of [] = Err 2
ordering_of (length ∷ words) = ordering_for (number_in 0 LONGEST_LEASE length) words

-- `drill SEED POLLS`, and then nothing or `--trace`
abbrev pub drill_for : (seed : ℕ) → Option ℕ → List (List ℕ) → Result Command ℕ
drill_for seed None words = Err 3
drill_for seed (Some polls) [] = Ok (Drill seed polls)
drill_for seed (Some polls) (option ∷ words) = if bytes_eq option (codes "--trace") then alone (DrillTrace seed polls) 5 words else Err 4

abbrev pub drill_from : Option ℕ → List (List ℕ) → Result Command ℕ
drill_from None words = Err 2
drill_from (Some seed) [] = Err 3
drill_from (Some seed) (polls ∷ words) = drill_for seed (number_in FEWEST_DAY_POLLS MOST_DAY_POLLS polls) words

abbrev pub drill_of : List (List ℕ) → Result Command ℕ
drill_of [] = Err 2
drill_of (seed ∷ words) = drill_from (number_in 0 (2 ^ 64 - 1) seed) words

-- those, `pagetime`, `agree` and `audit`
unfoldable pub command_of : List (List ℕ) → Result Command ℕ
command_of [] = Err 1
command_of (first ∷ words) =
    if bytes_eq first (codes "replay") then replay_of words
    else if bytes_eq first (codes "decode") then decode_of words
    else if bytes_eq first (codes "pagetime") then alone Pagetime 2 words
    else if bytes_eq first (codes "agree") then alone Agree 2 words
    else if bytes_eq first (codes "audit") then alone Audit 2 words
    else if bytes_eq first (codes "order") then ordering_of words
    else if bytes_eq first (codes "drill") then drill_of words
    else Err 1

-- whether a command reads its input
abbrev pub reads : Command → Bool
reads (Replay times) = true
reads (Decode what) = true
reads Pagetime = true
reads Agree = true
reads Audit = true
reads (Order length) = true
reads (Drill seed polls) = false
reads (DrillTrace seed polls) = false

-- a lease isn't longer than the longest; a day has at least so many polls, and no more than so many
abbrev pub IsAllowed : Command → Type 0
IsAllowed (Replay times) = Unit {0}
IsAllowed (Decode what) = Unit {0}
IsAllowed Pagetime = Unit {0}
IsAllowed Agree = Unit {0}
IsAllowed Audit = Unit {0}
IsAllowed (Order length) = length ≤ LONGEST_LEASE
IsAllowed (Drill seed polls) = (FEWEST_DAY_POLLS ≤ polls) × (polls ≤ MOST_DAY_POLLS)
IsAllowed (DrillTrace seed polls) = (FEWEST_DAY_POLLS ≤ polls) × (polls ≤ MOST_DAY_POLLS)
