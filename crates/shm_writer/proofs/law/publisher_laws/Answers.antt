use Rattle.shm_writer.proofs.Laws.{acts-by_number, at_most_ten, comes_nearer, stores-by_word}
use Rattle.shm_writer.proofs.law.publisher_laws.Goals as goal

pub returns-clause-acts : goal.returns-clause-acts
returns-clause-acts c = acts-by_number

pub returns-clause-most : goal.returns-clause-most
returns-clause-most c = at_most_ten

pub returns-clause-step : goal.returns-clause-step
returns-clause-step c = comes_nearer

pub returns-clause-words : goal.returns-clause-words
returns-clause-words c = stores-by_word
