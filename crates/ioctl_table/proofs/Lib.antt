pub mod Columns
pub mod Numbers
pub mod Raised
pub mod Rows
pub mod Walk
