pub mod PointLaws
pub mod Least
pub mod Dominance
pub mod Rising
pub mod Composed
pub mod Rows
pub mod MovedRow
