pub mod Entries
pub mod First
pub mod Ranges
