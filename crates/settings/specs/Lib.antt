pub mod Settings
pub mod Calls
pub mod Steps
pub mod Shown
