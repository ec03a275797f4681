-- What inner functions ask of and leave to each other.
pub mod Conditions
pub mod Rows
pub mod CappedRows
pub mod Stepping
