-- What is proved of the definitions, for other crates to cite.
pub mod Sums
pub mod Bounds
pub mod Listed
pub mod Ids
pub mod Payments
pub mod Edges
pub mod Meaning
pub mod Details
pub mod Asks
pub mod Kept
pub mod Reached
