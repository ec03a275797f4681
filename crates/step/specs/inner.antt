-- What inner functions ask of and leave to each other.
pub mod Unknowns
pub mod Looking
