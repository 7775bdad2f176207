pub mod Past
pub mod Tables
pub mod Events
