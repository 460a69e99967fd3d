pub mod Kinds
pub mod Fields
pub mod Content
pub mod Encode
pub mod Shape
pub mod Fit
