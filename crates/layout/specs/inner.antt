-- What private contracts speak of, and those of the functions that hand out the table: nothing here has to be believed of a record that is checked,
-- read or written.
pub mod Lent
pub mod Entries
