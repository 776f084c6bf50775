pub mod Names
pub mod Kinds
pub mod Types
pub mod Rows
