pub mod Radix
pub mod Cut
pub mod Rounded
pub mod Placed
pub mod Pairs
