pub mod Tests
pub mod Filling
pub mod Laying
pub mod Taking
pub mod Turns
