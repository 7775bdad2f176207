pub mod DaemonLines
pub mod HostRows
pub mod Turns
pub mod Dealing
pub mod Planning
pub mod Plans
pub mod Gathering
pub mod Begins
