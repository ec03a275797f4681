-- What inner functions ask of and leave to each other.
pub mod Nodes
pub mod Kept
pub mod Blanks
pub mod Ending
pub mod Held
pub mod Tables
