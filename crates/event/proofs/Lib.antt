pub mod Giving
pub mod Holding
pub mod Records
pub mod Proposing
pub mod Opening
pub mod Passing
