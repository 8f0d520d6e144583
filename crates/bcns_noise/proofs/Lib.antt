pub mod Words
pub mod Sign
pub mod Table
pub mod Limbs
