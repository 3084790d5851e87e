pub mod Fields
pub mod Pack
