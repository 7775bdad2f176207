pub mod ReplyLaws
pub mod RequestLaws
