pub mod Answers
pub mod Changes
pub mod Kinds
pub mod Setup
pub mod State
