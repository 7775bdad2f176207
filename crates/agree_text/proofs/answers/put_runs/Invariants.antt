use Rattle.std.proofs.Common.{◌≡◌, ◌++◌, take}
use Rattle.std.specs.String.{string_bytes}
use Rattle.agree_text.specs.Answers.{runs_text}
use Rattle.agree_text.proofs.answers.put_runs.Given as goal

abbrev pub invariant-runs : goal.invariant-runs
invariant-runs l = string_bytes l.text ≡ string_bytes l.fn.text ++ runs_text (take l.run-index l.runs)
