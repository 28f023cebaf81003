pub mod heaps
pub mod reading
pub mod paths
pub mod terms
pub mod ownership
pub mod soundness
pub mod locality
pub mod building
