pub mod Reports
pub mod Files
pub mod Seen
