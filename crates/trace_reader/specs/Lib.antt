pub mod Checks
pub mod Facts
pub mod Grammar
pub mod Held
pub mod Kind
pub mod Laws
pub mod Line
pub mod Party
