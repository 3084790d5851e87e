pub mod Services
pub mod Negotiation
