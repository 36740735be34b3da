mod Compared
mod Marks
mod ReadingOut
mod Meanings
pub mod ClaimLists
