pub mod Input
pub mod Lines
pub mod Replay
pub mod Requests
pub mod Cuts
pub mod Listing
