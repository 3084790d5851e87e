pub mod Controls
