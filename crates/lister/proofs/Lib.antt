pub mod Nodes
pub mod Naming
pub mod Slots
pub mod Joins
pub mod Starts
pub mod Signals
pub mod Resumes
