pub mod Known
mod Quantities
pub mod Ranges
mod Pressing
mod Supports
mod Working
mod Bends
