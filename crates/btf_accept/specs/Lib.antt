pub mod Limits
pub mod Sections
pub mod Accept
pub mod Table
pub mod Shape
