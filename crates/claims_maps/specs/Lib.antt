pub mod Faults
pub mod Devices
