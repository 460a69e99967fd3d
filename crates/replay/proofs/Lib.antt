pub mod Laws
pub mod Cutting
pub mod Whole
pub mod Moves
pub mod Listing
pub mod InTurn
