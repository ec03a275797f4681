pub mod CodeSets
pub mod Summaries
pub mod Summing
pub mod There
pub mod SummedNodes
pub mod Rounds
pub mod Answers
