pub mod Corners
pub mod Limits
pub mod Leaving
pub mod Sending
pub mod Stages
