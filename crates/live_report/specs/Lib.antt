pub mod DaemonCalls
pub mod ClientCalls
pub mod LiveRun
pub mod LiveReport
pub mod Counted
pub mod LiveLaws
