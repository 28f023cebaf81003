-- Why `build` gives the trace of a model. The heap comes cell by cell (`Heaps`), the store variable by variable
-- (`Stores`), the states one after another (`States`), over the condition's own terms (`Traces`); drawn over the
-- variables
-- of the procedure they refute the condition (`Drawings`).
pub mod Heaps
pub mod Stores
pub mod States
pub mod Traces
pub mod Drawings
