pub mod Casts
pub mod Counts
pub mod Clamping
pub mod Fields
pub mod Laws
pub mod Figures
