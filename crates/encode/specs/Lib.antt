-- The definitions that the contracts cite.
pub mod Bytes
pub mod Trips
pub mod Writers
pub mod Nodes
