pub mod Marks
pub mod PageReads
pub mod Segments
pub mod PollNumbers
pub mod DaemonStates
pub mod Daemons
pub mod Clients
pub mod Turns
pub mod AnyRun
pub mod Chains
pub mod PageMarkers
pub mod Trusted
pub mod GivenBases
pub mod ClockRows
pub mod FreshRuns
pub mod KeptAnswers
pub mod Among
mod WorkedRows
