pub mod Known
pub mod Steps
pub mod Inverse
pub mod Enough
pub mod Store
pub mod Lending
