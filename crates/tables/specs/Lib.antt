-- The definitions that the contracts cite.
pub mod Beside
pub mod Alike
pub mod Surveys
