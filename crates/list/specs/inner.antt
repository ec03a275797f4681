-- What inner functions ask of and leave to each other.
pub mod Notes
pub mod Preparing
pub mod Finding
