-- What only private contracts speak of: nothing here has to be believed.
pub mod Sizes
pub mod Payloads
