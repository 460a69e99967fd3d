pub mod Orders
pub mod Views
pub mod Running
pub mod Quiet
