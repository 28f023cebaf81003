-- Structures and heaps. What is built from a model has its hops (`Cells`, `BuiltHeap`, by `Reachability`, whose measure
-- is in `Counts`), and the model represents it; an owned heap is represented by some structure (`Representation`),
-- which keeps the axioms (`HeapAxioms`). Structure and heap then agree on each assertion (`Agreement`), and on steps:
-- `HeapSteps` leads from structures to heaps, `StructureSteps` from heaps to structures. In all: the axioms leave no
-- structure over named values but those of owned heaps.
pub mod Counts
pub mod Cells
pub mod Reachability
pub mod BuiltHeap
pub mod HeapAxioms
pub mod Representation
pub mod Agreement
pub mod HeapSteps
pub mod StructureSteps
