pub mod HeaderLaws
pub mod Laws
