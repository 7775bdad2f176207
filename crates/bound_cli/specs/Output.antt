-- What a command writes of the bytes of its input, or the fault of the first line that is refused.
use Rattle.std.specs.Prelude.{◌≡◌, ℕ, List, Result, Ok, Err}
use Rattle.std.specs.Option.{ok_or}
use Rattle.audit_text.specs.Audited.{Reported, TellsVerdict, reported_in}
use Rattle.drill_day.specs.Text.{day_text}
use Rattle.decode_text.specs.DecodeText.{decode_text}
use Rattle.csv_records.specs.Reason.{◌>>=◌}
use Rattle.csv_records.specs.TraceError.{Refuses}
use Rattle.csv_records.specs.declared.reason.Reason.TheVariants.{Hex}
use Rattle.csv_records.specs.declared.trace_error.TraceError.{TraceError}
use Rattle.csv_records.specs.declared.trace_error.TraceFault.{TraceFault}
use Rattle.pagetime_text.specs.Text.{pagetime_text}
use Rattle.agree_text.specs.Agreement.{agreement_text}
use Rattle.bound_cli.specs.declared.command.Command.{Command}
use Rattle.bound_cli.specs.declared.command.Command.TheVariants.{Replay, Decode, Pagetime, Agree, Audit, Order, Drill, DrillTrace}
use Rattle.bound_cli.specs.Drill.{drill_report}
use Rattle.bound_cli.specs.Order.{order_report}
use Rattle.bound_cli.specs.Replay.{replay_report}

-- what is written: this text, or the verdict on this report
pub data Output : Type 0 where
  Text : List ℕ → Output
  VerdictOn : Reported → Output

-- a text is such an output
abbrev pub IsOutput : Output → List ℕ → Type 0
IsOutput (Text text) written = written ≡ text
IsOutput (VerdictOn reported) written = TellsVerdict reported written

abbrev pub as_text : Result (List ℕ) TraceFault → Result Output TraceFault
as_text said = said >>= λ text. Ok (Text text)

abbrev pub as_verdict : Result Reported TraceFault → Result Output TraceFault
as_verdict said = said >>= λ reported. Ok (VerdictOn reported)

-- text that tells no bytes is refused as a whole
abbrev pub no_hex : TraceFault
no_hex = record { line = 1; reason = Hex }

-- the report of a trace, what hexadecimal text tells, the times that pages tell, where clocks agree, the verdict on a report, the stamps
-- and leases of a trace's answers, or a generated day
abbrev pub output_of : Command → List ℕ → Result Output TraceFault
output_of (Replay times) bytes = as_text (replay_report times bytes)
output_of (Decode what) bytes = as_text (ok_or (decode_text what bytes) no_hex)
output_of Pagetime bytes = as_text (pagetime_text bytes)
output_of Agree bytes = as_text (agreement_text bytes)
output_of Audit bytes = as_verdict (reported_in bytes)
output_of (Order length) bytes = as_text (order_report length bytes)
output_of (Drill seed polls) bytes = Ok (Text (drill_report seed polls))
output_of (DrillTrace seed polls) bytes = Ok (Text (day_text seed polls))

-- an answer is the output that is said, or its fault; want of memory may come at any time
abbrev pub Outputs : Result (List ℕ) TraceError → Result Output TraceFault → Type 0
Outputs (Ok text) said = (output : Output) × (said ≡ Ok output) × IsOutput output text
Outputs (Err error) said = Refuses error said
