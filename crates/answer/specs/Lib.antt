pub mod Limits
pub mod Sums
pub mod Rules
pub mod Output
