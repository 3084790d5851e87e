pub mod Told
pub mod Flaws
pub mod Packer
pub mod Meets
pub mod Wrong
