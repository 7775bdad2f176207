pub mod Ruled
pub mod Settled
pub mod Calls
pub mod Answered
pub mod Opens
pub mod Polls
pub mod Hosts
