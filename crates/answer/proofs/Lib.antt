-- Laws on plain values, for the proofs of this crate's functions.
mod Tests
pub mod laws
