-- What is proved of the definitions, for other crates to cite.
pub mod Tests
pub mod Strings
pub mod Sums
pub mod Numerals
pub mod Moduli
pub mod Seals
pub mod Plain
pub mod Twice
