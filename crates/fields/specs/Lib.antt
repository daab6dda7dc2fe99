pub mod Values
pub mod Examples
