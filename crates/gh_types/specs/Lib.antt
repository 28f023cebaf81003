pub mod Checking
pub mod Checks
pub mod Scopes
pub mod Faults
pub mod LimitChecks
pub mod Tables
