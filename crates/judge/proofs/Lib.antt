pub mod Shapes
pub mod Lates
pub mod Passing
pub mod Wants
pub mod Dues
pub mod Whole
