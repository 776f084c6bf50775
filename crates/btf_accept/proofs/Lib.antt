pub mod HeaderLaws
pub mod StretchLaws
pub mod WholeLaws
pub mod ScanLaws
pub mod FitLaws
pub mod MarkLaws
pub mod FillLaws
