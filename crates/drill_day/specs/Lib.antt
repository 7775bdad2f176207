pub mod Day
pub mod Draws
pub mod Seconds
pub mod Text
