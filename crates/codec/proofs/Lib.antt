pub mod Bedding
pub mod Whole
pub mod Valid
