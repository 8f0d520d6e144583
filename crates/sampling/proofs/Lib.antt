pub mod Noising
pub mod Expanding
pub mod Growing
pub mod Sampled
