-- Read AnyOrder first: it says what is proved.
pub mod Kept
pub mod AnyOrder
