pub mod Bonds
pub mod ClaimLemmas
pub mod TruthLemmas
pub mod LawLemmas
mod KindLemmas
