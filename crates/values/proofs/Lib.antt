pub mod Numbers
pub mod Settling
pub mod Valuing
pub mod Ranges
pub mod Meeting
