mod Clocks
mod Hosts
pub mod Kept
mod Replies
mod DayAnswers
