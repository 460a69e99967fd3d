pub mod Typing
pub mod Completing
pub mod Storing
pub mod Deciding
pub mod Calls
