pub mod Waiting
pub mod Sizes
pub mod Crops
pub mod Mapped
pub mod Meets
pub mod NoRoom
