-- What is proved of the definitions.
pub mod Days
pub mod Existing
pub mod Order
pub mod Factors
