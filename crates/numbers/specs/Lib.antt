pub mod Layers
pub mod Reports
pub mod Steps
pub mod Numbers
pub mod Laws
pub mod Readers
