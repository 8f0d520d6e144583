pub mod Entry
pub mod Margin
pub mod Parts
pub mod Spread
pub mod Groups
