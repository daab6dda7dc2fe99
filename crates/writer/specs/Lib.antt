pub mod Given
pub mod Refusals
pub mod Outcome
pub mod Calls
pub mod Examples
pub mod inner
