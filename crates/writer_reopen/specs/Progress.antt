-- What a step machine comes to after some steps: the act that it wants next, or its answer.
use Rattle.std.specs.Prelude.{ℕ, List, Option, Some, None, slice_get}
use Rattle.clock_gate.specs.declared.act.Act.{Act}
use Rattle.clock_gate.specs.declared.act.Act.TheVariants.{End}

pub data Progress (Answer : Type 0) : Type 0 where
  Asks : (act : Act) → Progress Answer
  Ends : (answer : Answer) → Progress Answer

module _ {Answer : Type 0} where
  abbrev pub act_of : Progress Answer → Act
  act_of (Asks act) = act
  act_of (Ends answer) = End

  abbrev pub end_of : Progress Answer → Option Answer
  end_of (Asks act) = None
  end_of (Ends answer) = Some answer

  abbrev pub next_or_end : Option Act → Answer → Progress Answer
  next_or_end (Some act) answer = Asks act
  next_or_end None answer = Ends answer

  -- these acts in their order, of which so many were done, and then this answer
  abbrev pub in_order : List Act → Answer → ℕ → Progress Answer
  in_order acts answer done = next_or_end (slice_get acts done) answer
