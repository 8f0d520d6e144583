pub mod Fit
pub mod Keys
pub mod Values
