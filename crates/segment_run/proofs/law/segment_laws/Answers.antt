use Rattle.segment_run.proofs.SegmentStart.{segment_start_shows, segment_start_found}
use Rattle.segment_run.proofs.SegmentAdmitted.{segment_admitted}
use Rattle.segment_run.proofs.law.segment_laws.Goals as goal

pub returns : goal.returns
returns c = record { begins = segment_start_shows; found = segment_start_found; admitted = segment_admitted }
