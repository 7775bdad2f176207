pub mod Packed
pub mod ClockError
