-- What is proved of the definitions.
pub mod Differ
pub mod FieldBytes
pub mod SameLine
pub mod SameBoleto
pub mod NextLine
pub mod OtherRecord
pub mod LinesAt
pub mod OtherBytes
pub mod Listed
pub mod Change
pub mod CheckSwapped
pub mod EveryLine
pub mod WrongOrder
pub mod SwapFiles
pub mod Ways
pub mod SecondBatch
pub mod ShutOut
