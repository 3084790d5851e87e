pub mod Halves
pub mod Services
