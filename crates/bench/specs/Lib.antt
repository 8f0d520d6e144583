pub mod Bench
pub mod Inside
pub mod Shown
