pub mod Negotiation
pub mod Answer
