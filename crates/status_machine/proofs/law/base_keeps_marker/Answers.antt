use Rattle.status_machine.proofs.BaseMarker.{base_keeps_marker}
use Rattle.status_machine.proofs.law.base_keeps_marker.Goals as goal

pub returns : goal.returns
returns c = base_keeps_marker
