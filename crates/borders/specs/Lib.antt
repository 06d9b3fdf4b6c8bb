-- The definitions that the contracts cite.
pub mod Pools
pub mod Shares
pub mod Borders
