pub mod Order
pub mod Lengths
pub mod Cover
