use Rattle.run_promises.proofs.KeptAnswers.{answers_fit, answers_follow, fresh_polls, kept_contain, held_contain}
use Rattle.run_promises.proofs.answers.kept_answers.Goals as goal

pub returns-clause-fit : goal.returns-clause-fit
returns-clause-fit c = answers_fit

pub returns-clause-follow : goal.returns-clause-follow
returns-clause-follow c = answers_follow

pub returns-clause-fresh : goal.returns-clause-fresh
returns-clause-fresh c = fresh_polls

pub returns-clause-contain : goal.returns-clause-contain
returns-clause-contain c = kept_contain

pub returns-clause-held : goal.returns-clause-held
returns-clause-held c = held_contain
