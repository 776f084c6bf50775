pub mod Make
pub mod Worked
pub mod Variants
