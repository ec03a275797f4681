-- What inner functions ask of and leave to each other.
pub mod Texts
pub mod Putting
