pub mod Matrix
pub mod Difference
pub mod Words
pub mod Steps
