pub mod Folds
pub mod Rules
pub mod Words
