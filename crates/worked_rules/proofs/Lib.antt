pub mod Examples
pub mod Starred
