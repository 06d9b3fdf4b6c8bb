pub mod Reports
pub mod Trees
pub mod Paint
pub mod Written
pub mod Marks
pub mod Spots
pub mod Targets
