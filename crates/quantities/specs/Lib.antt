pub mod Case
pub mod Known
pub mod Formulas
pub mod Quantities
pub mod Measured
pub mod MeasuredCase
pub mod Worked
