pub mod Ids
pub mod Examples
