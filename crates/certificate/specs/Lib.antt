pub mod Rank
pub mod Good
pub mod Safe
pub mod Order
