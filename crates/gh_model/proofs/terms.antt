-- The walk that gives terms. It only adds terms and binds what has none (`Extension`), and binds variables to listed
-- terms (`Bounds`). Where terms have the values of a store and a heap, all that was walked has names (`Denotation`), in
-- a callee too (`Callees`), and of several alternatives one is met (`Alternatives`); only variables of the procedure
-- have terms (`BoundVariables`). In all: terms denote values, from one fact at the end of a walk.
pub mod Extension
pub mod Denotation
pub mod Callees
pub mod Bounds
pub mod Alternatives
pub mod BoundVariables
