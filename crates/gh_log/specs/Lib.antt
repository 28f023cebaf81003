pub mod Lines
pub mod Tables
pub mod Sections
pub mod Texts
pub mod Spelled
pub mod Reading
pub mod Laws
