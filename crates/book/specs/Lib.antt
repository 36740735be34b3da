pub mod Register
pub mod Law
pub mod Shelves
pub mod Told
