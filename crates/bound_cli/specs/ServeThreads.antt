-- What `threads` answers and writes, by the bytes of its source.
use Rattle.std.specs.Prelude.{◌≡◌, ℕ, ◌<◌, ◌≤◌, List, length, map, All, Option, Result, Ok, Err, IsOk, IfOk, ⊤}
use Rattle.clock_gate.specs.declared.limits.TheConstants.{INPUT_LIMIT}
use Rattle.clock_gate.specs.declared.trace.Trace.{Trace}
use Rattle.generation_word.specs.Layout.{period_of}
use Rattle.csv_records.specs.TraceError.{Refuses}
use Rattle.csv_records.specs.declared.trace_error.TraceError.{TraceError}
use Rattle.trace_reader.specs.Grammar.{trace_in}
use Rattle.segment_rule.specs.Ruled.{TableView}
use Rattle.segment_rule.specs.Calls.{ClientState}
use Rattle.lawful_report.specs.Lawful.{IsLawfulReport}
use Rattle.live_report.specs.LiveRun.{setup_of, IsRunOf}
use Rattle.live_report.specs.LiveReport.{report_of}
use Rattle.live_run.specs.declared.run.Ran.{Ran}
use Rattle.bound_cli.specs.Stream.{Appended, AppendedFront}
use Rattle.bound_cli.specs.declared.run_text.Made.{Made}
use Rattle.bound_cli.specs.declared.status.Status.{Status}
use Rattle.bound_cli.specs.declared.status.Status.TheVariants as status

-- ---- the run

-- the seats are of this table, which was made of the trace, and the lines are those of a run of it by these seats; so their report is lawful
pub record IsRunBy (trace : Trace) (table : TableView) (ran : Ran) : Type 0 where
  pub of_trace : table.setup ≡ setup_of trace
  pub host : ran.host.table ≡ table.id
  pub daemon : ran.daemon.table ≡ table.id
  pub clients : All (λ (client : ClientState). client.table ≡ table.id) ran.clients
  pub run : IsRunOf trace ran.lines ran.host.view ran.daemon.view (map (λ (client : ClientState). client.view) ran.clients)
  pub lawful : length trace.polls < period_of trace.layout → IsLawfulReport trace (report_of trace ran.lines)

-- a run of the trace that these bytes are read as
abbrev pub IsRunIn : List ℕ → TableView → Ran → Type 0
IsRunIn bytes table ran = IfOk (trace_in bytes) (λ trace. IsRunBy trace table ran)

-- ---- the answer

-- the bytes are within the limit, and they are read as a trace
abbrev pub IsReadable : List ℕ → Type 0
IsReadable bytes = (length bytes ≤ INPUT_LIMIT) × IsOk (trace_in bytes)

-- which answers the bytes of a source allow. Read rests on the source's count of faults; Memory rests on nothing.
abbrev pub AllowsRun : List ℕ → Status → Type 0
AllowsRun bytes status.Ok = IsReadable bytes
AllowsRun bytes (status.Usage n) = ⊥
AllowsRun bytes (status.Trace line reason) = (length bytes ≤ INPUT_LIMIT) × (trace_in bytes ≡ Err (record { line = line; reason = reason }))
AllowsRun bytes status.Read = ⊤
AllowsRun bytes status.Write = IsReadable bytes
AllowsRun bytes status.TooLong = INPUT_LIMIT < length bytes
AllowsRun bytes status.Memory = ⊤

-- an answer with a run
abbrev pub HasRun : Status → Type 0
HasRun status.Ok = ⊤
HasRun (status.Usage n) = ⊥
HasRun (status.Trace line reason) = ⊥
HasRun status.Read = ⊥
HasRun status.Write = ⊤
HasRun status.TooLong = ⊥
HasRun status.Memory = ⊥

-- ---- what is written

-- after Ok the text stands behind what the sink held, after Write a front of it, and else nothing new
abbrev pub WritesText : Option (List ℕ) → Option (List ℕ) → List ℕ → Status → Type 0
WritesText old new text status.Ok = Appended old new text
WritesText old new text (status.Usage n) = new ≡ old
WritesText old new text (status.Trace line reason) = new ≡ old
WritesText old new text status.Read = new ≡ old
WritesText old new text status.Write = AppendedFront old new text
WritesText old new text status.TooLong = new ≡ old
WritesText old new text status.Memory = new ≡ old

-- the report of the lines of this run
abbrev pub WritesReport : (bytes : List ℕ) → Option (List ℕ) → Option (List ℕ) → Ran → Status → Type 0
WritesReport bytes old new ran answer = IfOk (trace_in bytes) (λ trace. WritesText old new (report_of trace ran.lines) answer)

-- ---- a run of a text

-- the run of the trace that these bytes are read as, and the report of its lines
pub record IsMadeOf (bytes : List ℕ) (made : Made) : Type 0 where
  pub trace : Trace
  pub is_read : trace_in bytes ≡ Ok trace
  pub run : IsRunBy trace made.table made.ran
  pub text : made.text ≡ report_of trace made.ran.lines

-- or the fault of the first refused line; want of memory may come at any time
abbrev pub MakesRun : List ℕ → Result Made TraceError → Type 0
MakesRun bytes (Ok made) = IsMadeOf bytes made
MakesRun bytes (Err error) = Refuses error (trace_in bytes)
