pub mod Parts
pub mod Laws
pub mod PutLaws
pub mod BitLaws
