pub mod Seen
pub mod Agree
pub mod Grow
pub mod PlaceLaws
pub mod Extends
