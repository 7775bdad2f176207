-- The last line of a report: whether the promises that its answers rest on were kept.
use Rattle.std.specs.Prelude.{ℕ, List, ◌++◌, codes, decimal}
use Rattle.promise_judge.specs.declared.fault.Why.{Why}
use Rattle.promise_judge.specs.declared.fault.Why.TheVariants.{Wrap, Image, Untold, Bound, Drift, Mark, Repeat}
use Rattle.run_promises.specs.declared.premises.Premises.{Premises}
use Rattle.run_promises.specs.declared.premises.Premises.TheVariants.{Held, Failed}

-- a promise that was broken
abbrev pub name_of : Why → List ℕ
name_of Wrap = codes "wrap"
name_of Image = codes "image"
name_of Untold = codes "untold"
name_of Bound = codes "bound"
name_of Drift = codes "drift"
name_of Mark = codes "mark"
name_of Repeat = codes "repeat"

unfoldable pub held_line : List ℕ
held_line = codes "premises,held\n"

-- `premises,failed,CLIENT,CALL,`
unfoldable pub failed_call : (client call : ℕ) → List ℕ
failed_call client call = codes "premises,failed," ++ (decimal client ++ (codes "," ++ (decimal call ++ codes ",")))

unfoldable pub failed_at : (at : ℕ) → List ℕ
failed_at at = codes "," ++ (decimal at ++ codes "\n")

-- `premises,held`, or `premises,failed,CLIENT,CALL,WHY,AT`
abbrev pub premises_line : Premises → List ℕ
premises_line Held = held_line
premises_line (Failed client call why at) = failed_call client call ++ (name_of why ++ failed_at at)
