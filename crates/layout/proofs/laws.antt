-- What is proved of the definitions, for other crates to cite.
pub mod Records
pub mod Bytes
pub mod Tiling
pub mod Sound
pub mod Contents
pub mod Absent
pub mod Columns
pub mod Indexes
pub mod Ids
