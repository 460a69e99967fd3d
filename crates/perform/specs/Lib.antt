pub mod Perform
