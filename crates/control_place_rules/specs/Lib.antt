pub mod Find
pub mod First
