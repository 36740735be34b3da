pub mod Answers
pub mod Sides
pub mod Judged
pub mod Claim
pub mod Claims
pub mod Figured
pub mod WorkedCase
