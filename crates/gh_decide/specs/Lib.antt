pub mod Rules
pub mod Safe
pub mod Examples
pub mod Laws
pub mod Logs
pub mod Verdicts
pub mod Outcomes
pub mod Decided
