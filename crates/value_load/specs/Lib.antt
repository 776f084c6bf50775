pub mod Aligned
