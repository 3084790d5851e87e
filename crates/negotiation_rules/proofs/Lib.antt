pub mod Fields
pub mod Good
pub mod Reply
