pub mod Outcomes
pub mod Kinds
pub mod Bits
pub mod Reading
pub mod Writing
pub mod Cases
pub mod inner
