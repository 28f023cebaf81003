pub mod Growth
pub mod Rows
pub mod Examples
pub mod Parts
pub mod Stated
