-- What only private contracts speak of: nothing here has to be believed.
pub mod Steps
pub mod Rows
