pub mod Laws
pub mod Back
pub mod WordLemmas
pub mod Agree
pub mod Found
pub mod PageTries
pub mod Accepted
pub mod HostRows
