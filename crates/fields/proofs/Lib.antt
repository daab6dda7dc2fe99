-- Laws on plain values, for the proofs of this crate's functions.
mod Fills
mod Store
mod Put
mod Making
pub mod laws
