use Rattle.writer_reopen.proofs.OpeningLaws.{keeps_values, acts-by_header, fresh_length, torn_length, kept_length, at_most_twelve, comes_nearer, opens_as_admitted, moved_exactly, numbers_after}
use Rattle.writer_reopen.proofs.Images.{goes_on}
use Rattle.writer_reopen.proofs.law.opening_laws.Goals as goal

pub returns-clause-keeps : goal.returns-clause-keeps
returns-clause-keeps c = keeps_values

pub returns-clause-acts : goal.returns-clause-acts
returns-clause-acts c = acts-by_header

pub returns-clause-fresh_steps : goal.returns-clause-fresh_steps
returns-clause-fresh_steps c = fresh_length

pub returns-clause-torn_steps : goal.returns-clause-torn_steps
returns-clause-torn_steps c = torn_length

pub returns-clause-kept_steps : goal.returns-clause-kept_steps
returns-clause-kept_steps c = kept_length

pub returns-clause-most : goal.returns-clause-most
returns-clause-most c = at_most_twelve

pub returns-clause-nearer : goal.returns-clause-nearer
returns-clause-nearer c = comes_nearer

pub returns-clause-start : goal.returns-clause-start
returns-clause-start c = opens_as_admitted

pub returns-clause-moved : goal.returns-clause-moved
returns-clause-moved c = moved_exactly

pub returns-clause-numbers : goal.returns-clause-numbers
returns-clause-numbers c = numbers_after

pub returns-clause-admitted : goal.returns-clause-admitted
returns-clause-admitted c = goes_on
