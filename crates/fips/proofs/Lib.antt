pub mod Bit
pub mod Steps
pub mod Kept
pub mod Rounds
pub mod Padding
pub mod Strings
pub mod Sponge
