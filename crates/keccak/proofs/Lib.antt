pub mod Rules
pub mod Rounds
