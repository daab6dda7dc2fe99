pub mod Calendar
pub mod Due
