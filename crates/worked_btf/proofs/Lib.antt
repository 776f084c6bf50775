pub mod Sample
pub mod SampleNumbers
