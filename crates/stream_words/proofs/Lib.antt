pub mod Kept
pub mod Record
pub mod Stores
pub mod Views
