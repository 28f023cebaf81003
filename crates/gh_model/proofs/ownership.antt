-- Ownership over the values of terms. A write, a new and a freed cell keep a heap owned (`Updates`), and so does each
-- step of a counterexample (`Traces`). In all: each heap of a counterexample is owned, so a structure represents it.
pub mod Updates
pub mod Traces
