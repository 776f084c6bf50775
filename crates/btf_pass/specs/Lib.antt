pub mod Good
pub mod Reach
pub mod Shape
