pub mod Films
pub mod Late
