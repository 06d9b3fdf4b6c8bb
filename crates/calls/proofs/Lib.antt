pub mod Placing
pub mod Verdicts
pub mod Refilled
pub mod Watered
