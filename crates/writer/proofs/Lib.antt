-- What the proofs of several functions ask.
pub mod Held
pub mod Lent
pub mod Trying
pub mod Answering
pub mod laws
