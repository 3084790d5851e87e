pub mod Halves
pub mod Reply
