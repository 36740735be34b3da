pub mod Spans
pub mod Decides
