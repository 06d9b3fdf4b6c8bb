pub mod Beds
pub mod Counted
pub mod Answered
