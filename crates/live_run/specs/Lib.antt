pub mod Dealt
pub mod Gathered
pub mod Host
pub mod Publishing
pub mod Room
pub mod Work
