pub mod Steps
pub mod Sends
pub mod Advancing
