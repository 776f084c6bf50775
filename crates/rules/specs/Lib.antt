-- In the order of document 01: what a BTF holds, questions about types, access, values, matches, patches, one record, the list, the report.
pub mod Kinds
pub mod Limits
pub mod Fields
pub mod Refusal
pub mod Types
pub mod Access
pub mod Value
pub mod Matching
pub mod Insn
pub mod Apply
pub mod Record
pub mod List
pub mod Ascii
pub mod Report
pub mod Call
