pub mod Tries
pub mod TriedRun
