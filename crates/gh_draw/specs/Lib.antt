pub mod Descriptions
pub mod Kept
pub mod Drawings
pub mod Drawn
pub mod Reading
pub mod Laws
