pub mod Ways
pub mod Quarters
pub mod Painted
pub mod Leaves
pub mod Forms
