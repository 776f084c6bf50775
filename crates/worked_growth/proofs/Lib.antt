pub mod Computed
pub mod Holds
