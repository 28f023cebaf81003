pub mod GrowthLemmas
pub mod WithinLemmas
pub mod InsideLemmas
pub mod RowLemmas
pub mod ClauseLemmas
pub mod LiteralLemmas
pub mod WalkLemmas
pub mod PartLemmas
mod GrownLemmas
