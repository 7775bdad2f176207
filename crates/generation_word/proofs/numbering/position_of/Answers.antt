use Rattle.std.proofs.Common.{rules}
use Rattle.generation_word.proofs.Laws.{position_of-at_rest, position_of-in_update}
use Rattle.generation_word.proofs.numbering.position_of.Goals as goal

pub returns-clause-at_rest : goal.returns-clause-at_rest
returns-clause-at_rest c = λ period p positive same. position_of-at_rest period p _ _ positive (search rules) same

pub returns-clause-in_update : goal.returns-clause-in_update
returns-clause-in_update c = λ period p positive same. position_of-in_update period p _ _ positive (search rules) same
