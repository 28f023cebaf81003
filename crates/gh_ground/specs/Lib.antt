pub mod Solving
pub mod Making
pub mod Laws
pub mod Kept
pub mod Trimming
