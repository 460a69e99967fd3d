pub mod Taking
pub mod Search
pub mod Copies
pub mod Rules
pub mod Laws
pub mod Written
pub mod Passing
