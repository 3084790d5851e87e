pub mod Lists
pub mod Parts
pub mod Stores
pub mod Tabs
pub mod Tests
pub mod Words
