pub mod Num
pub mod Put
pub mod Sign
pub mod Bits
