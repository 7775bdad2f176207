pub mod Admitted
pub mod Back
pub mod ImageWords
