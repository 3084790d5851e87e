pub mod Pieces
pub mod Lengths
pub mod Back
