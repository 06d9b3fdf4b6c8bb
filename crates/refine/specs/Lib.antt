-- The definitions that the contracts cite.
pub mod Windows
pub mod Floods
pub mod Shares
pub mod Divisions
pub mod Siblings
pub mod Joins
