-- What inner functions ask of and leave to each other.
pub mod Levels
pub mod Notes
pub mod Marking
pub mod Parts
pub mod Root
