pub mod Bits
pub mod FieldLaws
pub mod Keys
pub mod Others
pub mod Laws
pub mod RowLaws
