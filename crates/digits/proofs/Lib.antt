-- Laws on plain values, for the proofs of this crate's functions.
mod Small
mod Printed
pub mod laws
