pub mod Fewer
pub mod Leaders
pub mod Bounded
pub mod Cells
pub mod Models
pub mod Smallest
pub mod Laws
pub mod Examples
