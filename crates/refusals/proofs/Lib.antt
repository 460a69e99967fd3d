pub mod Numbers
pub mod Regular
