pub mod Turns
pub mod ReportLaws
pub mod Example
