pub mod Parts
pub mod Walk
