pub mod Answer
pub mod Refusal
pub mod Quorum
pub mod Opening
