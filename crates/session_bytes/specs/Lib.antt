pub mod Bytes
pub mod Shown
pub mod Drawn
