pub mod FewRecords
pub mod FirstLine
