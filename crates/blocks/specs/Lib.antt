pub mod Steps
pub mod Store
