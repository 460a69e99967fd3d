pub mod Want
pub mod Late
pub mod Contents
