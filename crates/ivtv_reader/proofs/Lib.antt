pub mod Openings
pub mod Taken
pub mod Whole
