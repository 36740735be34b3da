pub mod Fraction
pub mod Graded
pub mod Ratio
pub mod Ordered
