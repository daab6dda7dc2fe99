-- Laws on plain values, for the proofs of this crate's functions.
mod Written
pub mod laws
