pub mod Padding
pub mod Schedule
mod Turns
mod Bitwise
pub mod Examples
pub mod Names
