pub mod Reading
pub mod Numeral
pub mod Runs
pub mod Lines
pub mod Writing
pub mod Answer
