pub mod WellFormed
pub mod Numbers
pub mod PlacingLemmas
mod OrderLemmas
pub mod RowLemmas
pub mod PanelLemmas
pub mod ShownLemmas
