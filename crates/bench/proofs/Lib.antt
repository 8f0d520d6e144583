pub mod Comparing
pub mod Lamp
pub mod Answering
pub mod Shown
pub mod Differing
pub mod Comparison
