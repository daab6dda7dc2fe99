-- Laws on plain values, for the proofs of this crate's functions.
pub mod laws
