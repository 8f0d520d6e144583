pub mod Lanes
pub mod Ending
pub mod Absorbing
pub mod Squeezing
pub mod Output
pub mod Digest
