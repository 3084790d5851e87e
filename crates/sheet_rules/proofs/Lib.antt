pub mod Facts
pub mod Folding
pub mod Good
pub mod Signs
pub mod Truth
