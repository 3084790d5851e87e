pub mod Faults
pub mod Bench
pub mod Devices
