pub mod Text
pub mod View
pub mod Places
pub mod Lent
