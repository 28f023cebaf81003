-- From a model of a condition's clauses to a counterexample. The heaps that are built from its versions meet an
-- assertion exactly where its formulas are true (`BuiltVersions`), and have the cells, hops and betweenness of their
-- versions (`BuiltHeaps`); so each step is taken (`Steps`, calls and loops in `Calls`), and in the last state the check
-- fails (`Checks`). In all: the trace of a model is a counterexample (`Traces`), although the clauses speak of named
-- values alone.
pub mod BuiltVersions
pub mod BuiltHeaps
pub mod Steps
pub mod Calls
pub mod Checks
pub mod Traces
