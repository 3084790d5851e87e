pub mod Devices
pub mod Films
pub mod Late
pub mod Once
pub mod Rounds
