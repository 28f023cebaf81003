pub mod Names
pub mod Assuming
pub mod Kept
pub mod Clauses
pub mod Truths
pub mod RootUnits
pub mod Lines
pub mod Answers
