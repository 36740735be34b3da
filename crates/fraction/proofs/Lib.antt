pub mod Ratios
pub mod Order
pub mod Graded
pub mod Lattice
pub mod Sames
