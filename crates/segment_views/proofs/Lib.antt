pub mod Lists
pub mod Frames
pub mod HostLaws
pub mod DaemonLaws
pub mod LoadLaws
pub mod SeatLaws
pub mod Shown
pub mod Told
