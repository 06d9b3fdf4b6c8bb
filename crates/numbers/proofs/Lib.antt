pub mod Groups
pub mod Forms
pub mod Steps
