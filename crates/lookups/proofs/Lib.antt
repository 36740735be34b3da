pub mod Bilinear
pub mod Cells
pub mod Values
