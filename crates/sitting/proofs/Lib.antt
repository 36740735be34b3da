pub mod Counting
pub mod Gathered
