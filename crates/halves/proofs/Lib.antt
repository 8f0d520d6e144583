pub mod Full
pub mod Folded
pub mod Step
pub mod Stores
pub mod Moves
pub mod Columns
pub mod Part
pub mod Multiplied
