pub mod Steps
pub mod Strings
