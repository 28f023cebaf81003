pub mod StateFiles
pub mod Rule
pub mod Reports
pub mod Laws
pub mod Lines
pub mod Halts
