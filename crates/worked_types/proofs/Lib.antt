pub mod Make
pub mod Chains
pub mod FieldChecks
pub mod Names
pub mod TypeChecks
