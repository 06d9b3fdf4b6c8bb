-- The lemmas that the proofs use.
pub mod Beside
pub mod Uniform
pub mod Valid
