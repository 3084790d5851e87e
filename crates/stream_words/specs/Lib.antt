pub mod Moves
pub mod Stream
pub mod Words
