pub mod Feeds
pub mod Moves
