pub mod Edge
pub mod Margins
pub mod Pairs
pub mod Frequencies
