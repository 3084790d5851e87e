pub mod Changes
pub mod Turns
