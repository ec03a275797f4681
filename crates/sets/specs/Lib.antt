pub mod Set
pub mod Passing
