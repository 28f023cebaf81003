pub mod Leaving
pub mod Rowing
pub mod Sketching
