pub mod At
pub mod Slots
