pub mod Digits
pub mod ReplyLines
pub mod PageLines
pub mod ImageLines
pub mod DecodeText
