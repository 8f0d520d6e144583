pub mod Wire
pub mod Steps
pub mod Again
