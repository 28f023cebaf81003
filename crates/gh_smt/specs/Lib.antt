pub mod Scripts
pub mod Texts
pub mod Kinds
pub mod Meaning
pub mod Laws
pub mod Refusals
pub mod Reading
