pub mod Laws
pub mod Search
