-- What is proved of the definitions, for other crates to cite.
pub mod Order
pub mod Only
pub mod Frame
pub mod Sums
pub mod Leaving
