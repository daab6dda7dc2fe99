-- Laws on plain values, for the proofs of this crate's functions.
mod Found
mod Rows
mod Rounds
pub mod laws
