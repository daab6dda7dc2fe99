-- What is proved of the definitions, for other crates to cite.
pub mod Apart
pub mod Runs
pub mod Ends
pub mod Verdict
pub mod Joins
pub mod Arrivals
pub mod Told
