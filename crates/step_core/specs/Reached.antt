-- Where a run over plain words can stand: after some turns of the parties, in any order, from the start of a trace that is given.
use Rattle.std.specs.Prelude.{◌≡◌, List}
use Rattle.clock_gate.specs.declared.trace.Party.{Party}
use Rattle.abstract_run.specs.Given.{IsGiven}
use Rattle.step_core.specs.Shared.{Shared, shared_start}
use Rattle.step_core.specs.WordsShow.{words_by}

-- its words show the abstract run after the same turns (`TurnsShow`), and so each machine is given what it asks for
pub record IsReached (w : Shared) : Type 0 where
  pub given : IsGiven w.trace
  pub turns : List Party
  pub is : words_by (shared_start w.trace) turns ≡ w
