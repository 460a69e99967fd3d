pub mod Calling
pub mod Openings
