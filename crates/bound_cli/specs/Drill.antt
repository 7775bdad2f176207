-- What is told of a generated day.
use Rattle.std.specs.Prelude.{ℕ, List, ◌++◌, codes, decimal}
use Rattle.clock_gate.specs.declared.trace.Trace.{Trace}
use Rattle.drill_day.specs.Day.{day_of}
use Rattle.abstract_run.specs.RunWhole.{run_of}
use Rattle.bound_cli.specs.Replay.{summary_text}

-- `drill,SEED,POLLS`
unfoldable pub drill_line : (seed polls : ℕ) → List ℕ
drill_line seed polls = codes "drill," ++ (decimal seed ++ (codes "," ++ (decimal polls ++ codes "\n")))

-- the end of a trace's report
abbrev pub summary_of : Trace → List ℕ
summary_of trace = summary_text trace (run_of trace).events

-- the seed and the number of polls, and the end of the day's report
unfoldable pub drill_report : (seed polls : ℕ) → List ℕ
drill_report seed polls = drill_line seed polls ++ summary_of (day_of seed polls)
