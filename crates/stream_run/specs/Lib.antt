pub mod Replies
pub mod Switches
pub mod Numbers
pub mod Stream
