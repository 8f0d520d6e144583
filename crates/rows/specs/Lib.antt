pub mod Offer
pub mod Reply
pub mod Inside
pub mod Runs
pub mod Shown
