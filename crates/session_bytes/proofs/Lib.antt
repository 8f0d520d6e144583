pub mod Stages
pub mod Bytes
pub mod Calls
pub mod Drawn
