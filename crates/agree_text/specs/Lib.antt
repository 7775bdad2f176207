pub mod Agreement
pub mod Answers
pub mod Kind
pub mod Line
pub mod Session
pub mod Signed
