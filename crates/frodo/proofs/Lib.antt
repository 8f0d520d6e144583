pub mod Margin
pub mod Rule
pub mod Away
pub mod Entries
pub mod Room
pub mod Schemes
