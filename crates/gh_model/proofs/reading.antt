-- Formulas over terms, read over values. Terms of one class have one value (`Classes`), and true instances of the
-- axioms make a version over the classes a model (`AxiomRows`). Where terms map onto the values of a model, the
-- formulas of an assertion (`Assertions`) and of a step (`StepFormulas`) say of the terms what the model says of the
-- values, and all instances of the axioms are true (`AxiomInstances`). So an interpretation and its models of
-- values have the same formulas. In all: the formulas of an assertion say which parts of a depicted heap meet it
-- (`ReadingLaw`).
pub mod Classes
pub mod AxiomRows
pub mod Assertions
pub mod AxiomInstances
pub mod StepFormulas
pub mod ReadingLaw
