pub mod Arching
pub mod Prism
pub mod Forms
mod Table
