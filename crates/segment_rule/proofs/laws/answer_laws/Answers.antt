use Rattle.segment_rule.proofs.AnswerCauses.{answers_stand, reads_answer_time}
use Rattle.segment_rule.proofs.laws.answer_laws.Goals as goal

pub returns-clause-stand : goal.returns-clause-stand
returns-clause-stand c = answers_stand c.call_laws.ensures.told

pub returns-clause-complete : goal.returns-clause-complete
returns-clause-complete c = reads_answer_time c.call_laws.ensures.completes
