pub mod Kept
pub mod DayRuns
