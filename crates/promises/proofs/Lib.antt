-- What is proved of the definitions, and what the proofs of this crate's functions share.
pub mod laws
