pub mod Margins
pub mod Frequencies
