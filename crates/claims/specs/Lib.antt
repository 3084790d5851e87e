pub mod Calls
pub mod Machine
pub mod Table
pub mod Desk
pub mod Words
pub mod Answers
pub mod Demands
pub mod Device
