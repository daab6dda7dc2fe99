pub mod Order
pub mod Totals
pub mod Line
pub mod Machine
pub mod Calls
pub mod inner
