pub mod StarredCases
pub mod InnerCases
pub mod ReportExample
