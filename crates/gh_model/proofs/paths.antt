-- Paths of typed programs. A write or a free comes right after an access of its place (`Accesses`), a read after an
-- access of its variable, with as many values at calls and returns as there should be (`Typing`); the names on a path
-- are variables of its procedure (`PathVariables`), what a loop assigns too (gh_path, `LoopVariables`). A
-- condition's way is such a path (`Ways`). In all: what the walk of terms may count on.
pub mod Ways
pub mod Accesses
pub mod Typing
pub mod PathVariables
