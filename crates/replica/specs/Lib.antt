pub mod Reply
pub mod Openings
