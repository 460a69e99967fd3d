pub mod Search
pub mod Released
