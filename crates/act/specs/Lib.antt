pub mod Draft
pub mod Progress
