pub mod Sha256
pub mod Turns
pub mod Name
pub mod Examples
pub mod Laws
