-- The definitions that the contracts cite.
pub mod Turns
pub mod Laws
pub mod Composing
pub mod Records
pub mod Eight
