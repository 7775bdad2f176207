pub mod Leasts
pub mod KnownPages
pub mod Numbers
pub mod FoundLines
pub mod Auditor
pub mod NextLine
pub mod Verdicts
