pub mod Squared
pub mod Paces
pub mod Finishing
pub mod Verdicts
