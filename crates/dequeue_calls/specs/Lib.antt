pub mod Dequeues
