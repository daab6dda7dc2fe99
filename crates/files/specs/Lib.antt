pub mod File
pub mod Parts
pub mod Calls
pub mod inner
