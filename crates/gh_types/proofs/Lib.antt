pub mod FirstLemmas
pub mod TableLemmas
pub mod FieldLemmas
pub mod LimitLemmas
pub mod BrokenLemmas
pub mod CallLemmas
