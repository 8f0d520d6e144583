pub mod State
pub mod Part
pub mod Inside
