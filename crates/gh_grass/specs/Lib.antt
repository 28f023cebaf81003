pub mod Bindings
pub mod Claims
pub mod Footprints
pub mod Clauses
pub mod Truth
