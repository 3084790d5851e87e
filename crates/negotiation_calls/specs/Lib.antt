pub mod Negotiations
