pub mod Lines
pub mod Points
pub mod Pages
pub mod Course
pub mod Calls
pub mod Lawful
pub mod Showed
pub mod Composed
