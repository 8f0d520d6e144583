pub mod Noise
pub mod Stream
pub mod Cards
pub mod Blocks
