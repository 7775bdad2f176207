pub mod Making
pub mod PageReport
pub mod PageTime
pub mod Premises
pub mod Reads
pub mod Refusals
pub mod Units
