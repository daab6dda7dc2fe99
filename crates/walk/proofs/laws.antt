-- What is proved of the definitions, for the proofs of this crate's functions.
pub mod Masks
