pub mod KeptLaws
pub mod Refused
pub mod Apart
pub mod Touching
pub mod Two
pub mod Lists
pub mod Calls
