-- Laws on plain values, for the proofs of this crate's functions.
mod Edges
mod Fields
mod Front
pub mod laws
