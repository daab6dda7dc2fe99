pub mod Guarded
pub mod Demands
