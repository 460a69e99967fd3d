pub mod Layout
pub mod Kept
pub mod Window
pub mod Leaders
pub mod Decided
pub mod Formed
