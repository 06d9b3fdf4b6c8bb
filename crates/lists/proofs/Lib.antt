pub mod Served
pub mod Worked
