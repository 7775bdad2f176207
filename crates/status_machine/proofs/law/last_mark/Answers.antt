use Rattle.status_machine.proofs.LastMarkLemmas.{since_mark_is_last}
use Rattle.status_machine.proofs.law.last_mark.Goals as goal

pub returns : goal.returns
returns c = since_mark_is_last
