pub mod Counts
pub mod Members
pub mod Laws
pub mod Ranks
