-- What inner functions ask of and leave to each other.
pub mod CodeSets
pub mod Summaries
pub mod Rounds
