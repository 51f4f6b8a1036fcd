pub mod StarredCases
pub mod InnerCases
