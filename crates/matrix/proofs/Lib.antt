pub mod Laws
pub mod Rows
pub mod Search
pub mod Mixing
pub mod Quotient
pub mod Steps
pub mod Terms
pub mod Whole
