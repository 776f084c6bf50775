pub mod Enums
pub mod Events
pub mod Folding
pub mod Matches
