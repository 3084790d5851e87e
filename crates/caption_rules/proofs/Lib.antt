pub mod Records
pub mod Whole
pub mod Fits
pub mod Cases
