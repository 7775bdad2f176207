pub mod Cut
pub mod Audited
