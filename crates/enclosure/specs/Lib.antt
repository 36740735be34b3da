pub mod Model
pub mod Answer
pub mod Readings
pub mod Formula
pub mod Close
pub mod Theorems
