pub mod SoFar
pub mod Walking
pub mod Summing
