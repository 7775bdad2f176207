pub mod Lists
pub mod Clients
pub mod Events
pub mod Told
