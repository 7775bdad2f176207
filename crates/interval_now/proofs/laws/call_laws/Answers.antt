use Rattle.interval_now.proofs.CallCompletes.{completes}
use Rattle.interval_now.proofs.CallFollows.{follows_its_values}
use Rattle.interval_now.proofs.CallRun.{call_did, call_did_so}
use Rattle.interval_now.proofs.CallSteps.{same_given}
use Rattle.interval_now.proofs.laws.call_laws.Goals as goal

pub returns-clause-follows : goal.returns-clause-follows
returns-clause-follows c = follows_its_values

pub returns-clause-told : goal.returns-clause-told
returns-clause-told c = λ clock tries support touches answer some. (call_did clock tries support touches answer, call_did_so clock tries support touches answer some)

pub returns-clause-completes : goal.returns-clause-completes
returns-clause-completes c = completes

pub returns-clause-same : goal.returns-clause-same
returns-clause-same c = same_given
