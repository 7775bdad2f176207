mod Adding
pub mod Lawful
mod Orders
mod Rounds
