pub mod History
pub mod Image
pub mod Record
pub mod Words
