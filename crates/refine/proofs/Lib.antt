pub mod Floods
pub mod Blocks
pub mod Divided
pub mod Quarters
pub mod Spotted
pub mod Splitting
pub mod Families
pub mod Merging
