pub mod Floors
pub mod Scaled
pub mod Ends
pub mod Kept
pub mod Made
pub mod Truth
