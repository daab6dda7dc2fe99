-- Laws on plain values, for the proofs of this crate's functions.
mod Rounds
mod Waiting
mod Arriving
pub mod laws
