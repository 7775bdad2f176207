pub mod Board
pub mod Edges
pub mod Runs
pub mod Span
pub mod Sweep
