-- A record by itself: what it says, or the first reason to refuse it that needs no record before it.
use Rattle.std.specs.Prelude.{ℕ, ◌≤◌, List, length, Result, Ok, Err, ⊤, if◌then◌else◌}
use Rattle.std.specs.Option.{ok_or}
use Rattle.csv_records.specs.Kind.{kind_in}
use Rattle.csv_records.specs.Parts.{number_part}
use Rattle.csv_records.specs.Reason.{◌>>=◌}
use Rattle.csv_records.specs.declared.reason.Reason.{Reason}
use Rattle.csv_records.specs.declared.reason.Reason.TheVariants as reasons
use Rattle.bound_agree.specs.Span.{SpanEnds, span_of}
use Rattle.bound_agree.specs.declared.board.TheConstants.{MOST_SERVERS}
use Rattle.agree_text.specs.declared.kind.Kind.{Kind}
use Rattle.agree_text.specs.declared.kind.Kind.TheVariants as kind
use Rattle.agree_text.specs.declared.line.Line.{Line}
use Rattle.agree_text.specs.declared.line.Line.TheVariants.{Header, Set, Drop, Ask}
use Rattle.agree_text.specs.Kind.{allows, kinds, word_of}
use Rattle.agree_text.specs.Signed.{signed_part, truth_part}

-- the server that a record names
abbrev pub server_part : List (List ℕ) → Result ℕ Reason
server_part fields = number_part 1 MOST_SERVERS 1 fields

-- the span whose ends a record names: no span is a fault of its numbers
abbrev pub span_part : List (List ℕ) → Result SpanEnds Reason
span_part fields = do
  earliest ← signed_part 2 fields
  latest ← signed_part 3 fields
  ok_or (span_of earliest latest) reasons.Number

-- `set,SERVER,E,L`
abbrev pub set_in : List (List ℕ) → Result Line Reason
set_in fields = do
  server ← server_part fields
  span ← span_part fields
  Ok (Set server span)

-- `drop,SERVER`
abbrev pub drop_in : List (List ℕ) → Result Line Reason
drop_in fields = do
  server ← server_part fields
  Ok (Drop server)

-- `ask,F` or `ask,F,TRUTH`
abbrev pub ask_in : List (List ℕ) → Result Line Reason
ask_in fields = do
  most_false ← number_part 0 MOST_SERVERS 1 fields
  truth ← truth_part fields
  Ok (Ask most_false truth)

-- `agree-trace,1`
abbrev pub header_in : List (List ℕ) → Result Line Reason
header_in fields = do
  version ← number_part 1 1 1 fields
  Ok Header

-- what the fields of a record of this kind say, the leftmost that says nothing being the fault
abbrev pub line_by : Kind → List (List ℕ) → Result Line Reason
line_by kind.Header fields = header_in fields
line_by kind.Set fields = set_in fields
line_by kind.Drop fields = drop_in fields
line_by kind.Ask fields = ask_in fields

-- what a record says: its kind first, then the number of its fields, then the fields
unfoldable pub line_of : List (List ℕ) → Result Line Reason
line_of fields = do
  kind ← kind_in word_of kinds fields
  if allows kind (length fields) then line_by kind fields else Err reasons.Fields

-- the server of a line is one of a board's
abbrev pub IsLine : Line → Type 0
IsLine Header = ⊤
IsLine (Set server span) = (1 ≤ server) × (server ≤ MOST_SERVERS)
IsLine (Drop server) = (1 ≤ server) × (server ≤ MOST_SERVERS)
IsLine (Ask most_false truth) = ⊤
