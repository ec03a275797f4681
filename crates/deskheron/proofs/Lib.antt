pub mod Groups
pub mod Trimmed
pub mod Demand
pub mod Stepping
pub mod Outside
pub mod Entered
pub mod Refusals
