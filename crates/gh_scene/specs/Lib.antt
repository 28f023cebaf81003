pub mod Roles
pub mod Spare
pub mod Rows
pub mod Sketches
pub mod Sought
pub mod Picturing
