pub mod Number
pub mod Early
