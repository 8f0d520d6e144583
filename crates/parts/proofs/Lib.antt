pub mod Joining
pub mod Put
pub mod Words
pub mod Blocks
