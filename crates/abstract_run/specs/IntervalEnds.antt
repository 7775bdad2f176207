-- Where the interval of an answer lies.
use Rattle.interval_now.specs.Call.{AnswerKeepsEnds}
use Rattle.abstract_run.specs.declared.event.Event.{Event}
use Rattle.abstract_run.specs.declared.event.Event.TheVariants.{Answered}

-- the interval of an answer that has one keeps its ends
abbrev pub EventKeepsEnds : Event → Type 0
EventKeepsEnds (Answered client call answer trail) = AnswerKeepsEnds answer
EventKeepsEnds event = Unit {0}
