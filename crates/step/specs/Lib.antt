-- The definitions that the contracts cite.
pub mod Speeds
pub mod Ends
