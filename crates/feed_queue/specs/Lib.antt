pub mod Feeds
pub mod Queued
pub mod Ends
