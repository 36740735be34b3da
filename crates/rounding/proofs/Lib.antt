pub mod Cuts
pub mod Ends
pub mod Rounds
pub mod Scalings
pub mod Drops
pub mod Sums
pub mod Laws
pub mod Orders
