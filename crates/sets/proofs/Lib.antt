pub mod Booleans
pub mod Members
pub mod Counts
pub mod Words
pub mod Lowest
