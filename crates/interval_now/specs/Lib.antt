pub mod Call
pub mod CallRun
pub mod CallValues
pub mod Interval
pub mod Status
