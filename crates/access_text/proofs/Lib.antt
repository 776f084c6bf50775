pub mod Digits
pub mod Items
pub mod Parts
