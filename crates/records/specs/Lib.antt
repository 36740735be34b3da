pub mod Cause
pub mod Curve
pub mod Fields
pub mod Grid
pub mod Section
pub mod ShortList
pub mod Site
pub mod Lines
