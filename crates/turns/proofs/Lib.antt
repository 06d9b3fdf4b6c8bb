-- The lemmas that the proofs use.
pub mod Places
pub mod Carrying
pub mod Tables
pub mod Basins
pub mod Waters
pub mod Calls
