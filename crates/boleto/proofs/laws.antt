-- What is proved of the definitions, for other crates to cite.
pub mod Parts
pub mod Accepted
pub mod Conversions
pub mod Changes
pub mod CheckSwap
pub mod CollectionAccepted
pub mod CollectionConversions
pub mod Identifiers
pub mod Blocks
pub mod CollectionChanges
pub mod CollectionAgain
