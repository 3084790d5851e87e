pub mod Services
pub mod Lines
pub mod Block
pub mod Writing
pub mod Reading
