pub mod Cell
pub mod Line
pub mod Lookup
pub mod Operand
pub mod Tabulated
