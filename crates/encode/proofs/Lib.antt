-- The lemmas that the proofs of the functions cite.
pub mod Groups
pub mod Puts
pub mod Ranges
pub mod Bedding
pub mod Nodes
pub mod Whole
pub mod Blocks
pub mod Again
pub mod Trips
