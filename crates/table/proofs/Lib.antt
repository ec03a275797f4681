pub mod Bits
pub mod Rows
pub mod Cutting
pub mod Nodes
pub mod Faults
pub mod Header
pub mod Accepted
pub mod Places
mod Walking
pub mod Loading
pub mod Fields
pub mod Making
mod Packing
pub mod ReadBack
pub mod RoundTrip
pub mod Refusals
pub mod Cases
