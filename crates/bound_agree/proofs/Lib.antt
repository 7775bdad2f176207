pub mod Agreed
pub mod Counted
pub mod Counting
pub mod Edits
pub mod Holding
pub mod OneSweep
pub mod Order
