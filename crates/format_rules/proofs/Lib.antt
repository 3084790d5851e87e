pub mod Bounds
pub mod Good
