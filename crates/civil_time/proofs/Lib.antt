pub mod Civil
pub mod Computed
pub mod Texts
