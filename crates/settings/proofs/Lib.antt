pub mod Quorums
pub mod Openings
pub mod Leaders
