-- What is proved of the definitions, for other crates to cite.
pub mod Filled
