pub mod Search
pub mod Regular
pub mod Putting
pub mod Releasing
