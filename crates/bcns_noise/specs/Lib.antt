pub mod Noise
pub mod Shown
pub mod Limbs
