pub mod Refusals
pub mod Seen
pub mod Steps
