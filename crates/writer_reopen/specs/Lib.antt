pub mod Causes
pub mod Opening
pub mod Poll
pub mod PollMachine
pub mod Progress
