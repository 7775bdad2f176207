pub mod SegmentRun
pub mod SegmentTries
