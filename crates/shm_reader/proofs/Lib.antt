pub mod GivenWords
pub mod SegmentRun
pub mod Stands
