pub mod Acts
pub mod FirstFault
pub mod Traces
