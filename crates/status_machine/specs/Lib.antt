pub mod Poll
pub mod Incarnation
pub mod LastMark
pub mod Step
pub mod BaseMarker
pub mod Base
