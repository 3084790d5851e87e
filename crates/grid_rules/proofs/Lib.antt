pub mod Places
pub mod Counts
pub mod Sizes
pub mod Values
