-- From a counterexample to a model of its condition's clauses. Terms get values along a walk (`WalkValues`), a step
-- (`StepValues`) and a trace (`TraceValues`), and each version a structure that represents its heap (`Versions`). The
-- interpretation of these values (`Interpretation`) makes the formulas of all steps (`StepTruth`) and of the check
-- (`CheckTruth`) true, so all formulas of the condition (`Abstraction`), and, as definitions can be added, its clauses
-- (`ClauseModels`). By `SuccessorVersions` any values of the terms do, and their model depicts the heaps (`Depiction`).
-- In all: where the clauses have no model, the condition has no counterexample.
pub mod WalkValues
pub mod StepValues
pub mod TraceValues
pub mod Versions
pub mod Interpretation
pub mod StepTruth
pub mod CheckTruth
pub mod Abstraction
pub mod ClauseModels
pub mod SuccessorVersions
pub mod Depiction
