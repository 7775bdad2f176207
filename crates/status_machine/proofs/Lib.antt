pub mod LookBack
pub mod LastMarkLemmas
pub mod Fits
pub mod BaseOfPoll
pub mod BaseMarker
