mod ByPlace
pub mod Opening
pub mod Settings
