-- What is proved of the definitions, for other crates to cite.
pub mod Parts
pub mod Absent
pub mod AsBefore
pub mod NotGiven
pub mod Kept
pub mod RoundTrip
pub mod TooWide
pub mod Calls
pub mod Wide
pub mod Marks
pub mod Spoiled
pub mod Named
pub mod NotMade
