pub mod Folded
pub mod Matches
