pub mod Branch
pub mod call
pub mod loop
pub mod chain
pub mod example
