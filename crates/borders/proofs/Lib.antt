pub mod Reading
pub mod Seeing
pub mod Adding
