pub mod Appended
pub mod Dated
pub mod HeldEnds
pub mod LineEnds
pub mod ReportLines
