pub mod Decisive
pub mod Reply
pub mod Laws
pub mod Examples
