pub mod Publisher
pub mod Leaps
