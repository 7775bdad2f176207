use Rattle.generation_word.proofs.Laws as laws
use Rattle.generation_word.proofs.numbering.numbering_laws.Goals as goal

pub returns-clause-one_position : goal.returns-clause-one_position
returns-clause-one_position c = laws.one_position

pub returns-clause-at_rest : goal.returns-clause-at_rest
returns-clause-at_rest c = λ period p positive. (laws.odd_after-at_rest period p, laws.even_after-at_rest period p positive)

pub returns-clause-in_update : goal.returns-clause-in_update
returns-clause-in_update c = λ period p positive. (laws.odd_after-in_update period p, laws.even_after-in_update period p positive)
