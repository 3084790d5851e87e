pub mod Alike
pub mod InForce
pub mod Switched
pub mod Waiting
pub mod Sizes
pub mod Crops
pub mod Mapped
pub mod Meets
