pub mod Parts
pub mod Grammar
pub mod Spelling
pub mod Writing
pub mod Reading
pub mod Answers
pub mod Theorems
pub mod inner
