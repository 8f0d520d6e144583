pub mod Laws
mod Flow
mod Cards
mod Groups
