-- What private contracts speak of: nothing here has to be believed of a record that is checked.
pub mod Steps
pub mod Masks
