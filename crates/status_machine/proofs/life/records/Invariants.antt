use Rattle.std.proofs.Common.{◌≡◌, List, [], ◌++◌, drop}
use Rattle.std.specs.Prelude.{IfSome}
use Rattle.status_machine.specs.declared.poll.Poll.{Poll}
use Rattle.status_machine.specs.Poll.{BaseFits}
use Rattle.status_machine.specs.Incarnation.{Incarnation, records_after}
use Rattle.status_machine.specs.Step.{ShowsPast}
use Rattle.status_machine.proofs.life.records.Given as goal

abbrev pub invariant-loop-poll : goal.invariant-loop-poll
invariant-loop-poll l =
    let from : Incarnation = record { start = l.start; drift = l.drift; support = l.support; base = l.base } in
    (past : List Poll) × ShowsPast from past l.daemon × IfSome l.daemon.base BaseFits
    × (l.records.items ++ records_after from past (drop l.poll-index l.polls) ≡ records_after from [] l.polls)
