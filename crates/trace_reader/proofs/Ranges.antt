-- What a line that was read keeps by itself.
use Rattle.std.proofs.Common.{◌≡◌, ◌≤◌, ◌<◌, ◌*◌, ◌^◌, ℕ, Bool, true, false, cond, List, [], ◌∷◌, length, Option, Some, None, Ok, Err, refl, subst, arith}
use Rattle.std.specs.Prelude.{⊤, ◌-◌, IfSome, codes, ◌==◌, option_map}
use Rattle.std.specs.Str.{bytes_eq}
use Rattle.clock_gate.specs.Trace.{IsClient, IsClockRow, IsFrom, IsParty, IsPollRow, IsTurn}
use Rattle.clock_gate.specs.declared.clock_row.ClockRow.{ClockRow}
use Rattle.clock_gate.specs.declared.limits.TheConstants.{LAST_MOMENT, MOST_CLIENTS, MOST_DRIFT, MOST_OF_A_LINE, MOST_PAGE_BYTES, MOST_REPLY_BYTES, MOST_STORES, MOST_TRIES}
use Rattle.clock_gate.specs.declared.trace.Party.{Party}
use Rattle.clock_gate.specs.declared.trace.Party.TheVariants as parties
use Rattle.clock_gate.specs.declared.trace.PollRow.{PollRow}
use Rattle.clock_gate.specs.declared.trace.Turn.{Turn}
use Rattle.clock_gate.specs.declared.trace.Turn.TheVariants as turns
use Rattle.vmclock_page.specs.Bounds.{KeepsBounds}
use Rattle.segment_layout.specs.Words.{words_of_image}
use Rattle.csv_records.specs.Fields.{number_in}
use Rattle.csv_records.specs.Parts.{bytes_part, number_part, optional_part}
use Rattle.csv_records.specs.declared.reason.Reason.TheVariants as reasons
use Rattle.csv_records.proofs.Ranges.{bytes_part-within, number_in-within, number_part-within, optional_part-within, part_at-said, then_ok}
use Rattle.trace_reader.specs.Kind.{allows, kind_in}
use Rattle.trace_reader.specs.Line.{clock_row_in, image_by, jobs_in, layout_named, line_by, line_of, page_found, poll_row_in, run_in}
use Rattle.trace_reader.specs.Party.{client_named, client_number, party_named, party_part}
use Rattle.trace_reader.specs.declared.kind.Kind.{Kind}
use Rattle.trace_reader.specs.declared.kind.Kind.TheVariants as kinds
use Rattle.trace_reader.specs.declared.line.Line.{Line}
use Rattle.trace_reader.specs.declared.line.Line.TheVariants as lines
use Rattle.trace_reader.proofs.Pages.{page_found-bounds}

-- the numbers of a line are in their ranges
abbrev pub IsSound : Line → Type 0
IsSound lines.Header = ⊤
IsSound (lines.Drift drift) = drift ≤ MOST_DRIFT
IsSound (lines.Tries tries) = IsFrom 1 MOST_TRIES tries
IsSound (lines.Layout layout) = ⊤
IsSound (lines.Image words) = ⊤
IsSound (lines.Page page) = IfSome page KeepsBounds
IsSound (lines.Clock row) = IsClockRow row
IsSound (lines.Mark marker) = marker < 2 ^ 64
IsSound lines.Disrupt = ⊤
IsSound (lines.Poll row) = IsPollRow row
IsSound (lines.Call client tries) = IsClient client × IfSome tries (IsFrom 1 MOST_TRIES)
IsSound (lines.Turns turn) = IsTurn turn

client_number-client : (digits : List ℕ) (party : Party) → client_number digits ≡ Some party → IsParty party
client_number-client [] party e = absurd cc
client_number-client (digit ∷ digits) party e = by (digit == 48) (number_in 1 MOST_CLIENTS (digit ∷ digits)) refl e
  where
    by : (leading : Bool) (found : Option ℕ) → number_in 1 MOST_CLIENTS (digit ∷ digits) ≡ found → cond leading None (option_map parties.Client found) ≡ Some party → IsParty party
    by true found is e = absurd cc
    by false None is e = absurd cc
    by false (Some client) is e =
        let same : parties.Client client ≡ party = cc e in
        subst IsParty same (number_in-within 1 MOST_CLIENTS (digit ∷ digits) client is)

client_named-client : (field : List ℕ) (party : Party) → client_named field ≡ Some party → IsParty party
client_named-client [] party e = absurd cc
client_named-client (letter ∷ digits) party e = by (letter == 99) e
  where
    by : (is : Bool) → cond is (client_number digits) None ≡ Some party → IsParty party
    by true e = client_number-client digits party e
    by false e = absurd cc

party_named-party : (field : List ℕ) (party : Party) → party_named field ≡ Some party → IsParty party
unfolding party_named
party_named-party field party e = by (bytes_eq field (codes "h")) (bytes_eq field (codes "d")) e
  where
    by : (host daemon : Bool) → cond host (Some parties.Host) (cond daemon (Some parties.Daemon) (client_named field)) ≡ Some party → IsParty party
    by true daemon e = let same : parties.Host ≡ party = cc e in subst IsParty same tt
    by false true e = let same : parties.Daemon ≡ party = cc e in subst IsParty same tt
    by false false e = client_named-client field party e

party_part-party : (place : ℕ) (fields : List (List ℕ)) (party : Party) → party_part place fields ≡ Ok party → IsParty party
party_part-party place fields party e =
    let (field, says) = part_at-said reasons.Number party_named place fields party e in
    party_named-party field party says

clock_row-sound : (fields : List (List ℕ)) (row : ClockRow) → clock_row_in fields ≡ Ok row → IsClockRow row
clock_row-sound fields row e =
    let (mono, mono_is, e1) = then_ok (number_part 0 LAST_MOMENT 1 fields) _ row e in
    let (real, real_is, e2) = then_ok (number_part 0 LAST_MOMENT 2 fields) _ row e1 in
    let (truth, truth_is, e3) = then_ok (optional_part 0 LAST_MOMENT 3 fields) _ row e2 in
    let within = optional_part-within 0 LAST_MOMENT 3 fields truth truth_is in
    subst IsClockRow (cc e3) (record {
      mono = (number_part-within 0 LAST_MOMENT 1 fields mono mono_is).1;
      real = (number_part-within 0 LAST_MOMENT 2 fields real real_is).1;
      truth = upper truth within;
    })
  where
    upper : (o : Option ℕ) → IfSome o (IsFrom 0 LAST_MOMENT) → IfSome o (λ n. n ≤ LAST_MOMENT)
    upper None within = tt
    upper (Some n) within = within.1

poll_row-sound : (fields : List (List ℕ)) (row : PollRow) → poll_row_in fields ≡ Ok row → IsPollRow row
poll_row-sound fields row e =
    let (reply, reply_is, e1) = then_ok (bytes_part (2 * MOST_REPLY_BYTES) 1 fields) _ row e in
    let (stop, stop_is, e2) = then_ok (optional_part 0 MOST_STORES 2 fields) _ row e1 in
    let short = bytes_part-within (2 * MOST_REPLY_BYTES) 1 fields reply reply_is in
    let same : row_of reply stop ≡ row = cc e2 in
    subst IsPollRow same (record { reply = omega (arith, short.0); stop = upper stop (optional_part-within 0 MOST_STORES 2 fields stop stop_is) })
  where
    row_of : List ℕ → Option ℕ → PollRow
    row_of reply stop = record { reply = reply; stop = stop }

    upper : (o : Option ℕ) → IfSome o (IsFrom 0 MOST_STORES) → IfSome o (λ n. n ≤ MOST_STORES)
    upper None within = tt
    upper (Some n) within = within.1

run-sound : (fields : List (List ℕ)) (turn : Turn) → run_in fields ≡ Ok turn → IsTurn turn
run-sound fields turn e =
    let (party, party_is, e1) = then_ok (party_part 1 fields) _ turn e in
    let (count, count_is, e2) = then_ok (number_part 1 MOST_OF_A_LINE 2 fields) _ turn e1 in
    let same : turns.Run party count ≡ turn = cc e2 in
    subst IsTurn same (party_part-party 1 fields party party_is, number_part-within 1 MOST_OF_A_LINE 2 fields count count_is)

jobs-sound : (fields : List (List ℕ)) (turn : Turn) → jobs_in fields ≡ Ok turn → IsTurn turn
jobs-sound fields turn e =
    let (party, party_is, e1) = then_ok (party_part 1 fields) _ turn e in
    let (count, count_is, e2) = then_ok (number_part 1 MOST_OF_A_LINE 2 fields) _ turn e1 in
    let same : turns.Jobs party count ≡ turn = cc e2 in
    subst IsTurn same (party_part-party 1 fields party party_is, number_part-within 1 MOST_OF_A_LINE 2 fields count count_is)

image_by-sound : (bytes : List ℕ) (line : Line) → image_by bytes ≡ Ok line → IsSound line
unfolding image_by
image_by-sound bytes line e = by (length bytes == 80) e
  where
    by : (whole : Bool) → cond whole (Ok (lines.Image (words_of_image bytes))) (Err reasons.Hex) ≡ Ok line → IsSound line
    by true e = let same : lines.Image (words_of_image bytes) ≡ line = cc e in subst IsSound same tt
    by false e = absurd cc

-- what a record of a kind says is sound
kind-sound : (kind : Kind) (fields : List (List ℕ)) (line : Line) → line_by kind fields ≡ Ok line → IsSound line
kind-sound kinds.Header fields line e =
    let (n, is, e1) = then_ok (number_part 1 1 1 fields) _ line e in
    let same : lines.Header ≡ line = cc e1 in subst IsSound same tt
kind-sound kinds.Drift fields line e =
    let (n, is, e1) = then_ok (number_part 0 MOST_DRIFT 2 fields) _ line e in
    let same : lines.Drift n ≡ line = cc e1 in subst IsSound same (number_part-within 0 MOST_DRIFT 2 fields n is).1
kind-sound kinds.Tries fields line e =
    let (n, is, e1) = then_ok (number_part 1 MOST_TRIES 2 fields) _ line e in
    let same : lines.Tries n ≡ line = cc e1 in subst IsSound same (number_part-within 1 MOST_TRIES 2 fields n is)
kind-sound kinds.Layout fields line e =
    let (n, is, e1) = then_ok (number_part 2 3 2 fields) _ line e in
    let same : lines.Layout (layout_named n) ≡ line = cc e1 in subst IsSound same tt
kind-sound kinds.Image fields line e =
    let (bytes, is, e1) = then_ok (bytes_part 160 1 fields) _ line e in
    image_by-sound bytes line e1
kind-sound kinds.Page fields line e =
    let (bytes, is, e1) = then_ok (bytes_part (2 * MOST_PAGE_BYTES) 1 fields) _ line e in
    let same : lines.Page (page_found bytes) ≡ line = cc e1 in
    subst IsSound same (page_found-bounds bytes (bytes_part-within (2 * MOST_PAGE_BYTES) 1 fields bytes is).1)
kind-sound kinds.Clock fields line e =
    let (row, is, e1) = then_ok (clock_row_in fields) _ line e in
    let same : lines.Clock row ≡ line = cc e1 in subst IsSound same (clock_row-sound fields row is)
kind-sound kinds.Mark fields line e =
    let (n, is, e1) = then_ok (number_part 0 (2 ^ 64 - 1) 1 fields) _ line e in
    let within = number_part-within 0 (2 ^ 64 - 1) 1 fields n is in
    let same : lines.Mark n ≡ line = cc e1 in subst IsSound same (omega (arith, within.1))
kind-sound kinds.Disrupt fields line e = let same : lines.Disrupt ≡ line = cc e in subst IsSound same tt
kind-sound kinds.Poll fields line e =
    let (row, is, e1) = then_ok (poll_row_in fields) _ line e in
    let same : lines.Poll row ≡ line = cc e1 in subst IsSound same (poll_row-sound fields row is)
kind-sound kinds.Call fields line e =
    let (client, is, e1) = then_ok (number_part 1 MOST_CLIENTS 1 fields) _ line e in
    let (tries, tries_is, e2) = then_ok (optional_part 1 MOST_TRIES 2 fields) _ line e1 in
    let same : lines.Call client tries ≡ line = cc e2 in
    subst IsSound same (number_part-within 1 MOST_CLIENTS 1 fields client is, optional_part-within 1 MOST_TRIES 2 fields tries tries_is)
kind-sound kinds.Run fields line e =
    let (turn, is, e1) = then_ok (run_in fields) _ line e in
    let same : lines.Turns turn ≡ line = cc e1 in subst IsSound same (run-sound fields turn is)
kind-sound kinds.Jobs fields line e =
    let (turn, is, e1) = then_ok (jobs_in fields) _ line e in
    let same : lines.Turns turn ≡ line = cc e1 in subst IsSound same (jobs-sound fields turn is)

-- so is each line that a record is
pub line_of-sound : (fields : List (List ℕ)) (line : Line) → line_of fields ≡ Ok line → IsSound line
unfolding line_of
line_of-sound fields line e =
    let (kind, is, e1) = then_ok (kind_in fields) _ line e in
    by kind (allows kind (length fields)) e1
  where
    by : (kind : Kind) (allowed : Bool) → cond allowed (line_by kind fields) (Err reasons.Fields) ≡ Ok line → IsSound line
    by kind true e = kind-sound kind fields line e
    by kind false e = absurd cc
