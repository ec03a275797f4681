-- What inner functions ask of and leave to each other.
pub mod Loading
pub mod Places
pub mod Making
