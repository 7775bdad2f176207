pub mod Facts
pub mod Held
pub mod Kind
pub mod Laws
pub mod Line
pub mod Text
