pub mod ReadTypes
pub mod Stores
pub mod Typed
