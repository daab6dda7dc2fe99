pub mod Digits
pub mod Numbers
pub mod Checks
pub mod inner
