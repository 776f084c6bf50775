pub mod Make
pub mod Starred
pub mod Report
