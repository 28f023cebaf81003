-- Runs above activations that wait.
use Rattle.std.specs.Prelude.{◌≡◌, List, [], ◌++◌}
use Rattle.gh_ast.specs.Plain.{return, Statements, no_statements, statement_first}
use Rattle.gh_machine.specs.Machine.{Activation, Config}

-- the configuration over some activations that wait below all of its own
abbrev pub onto : Config → List Activation → Config
onto c b = record { heap = c.heap; top = c.top; below = c.below ++ b }

-- nothing is left, or a return comes next
abbrev pub IsOver : Statements → Type 0
IsOver no_statements = Unit {0}
IsOver (statement_first (return at es) rest) = Unit {0}
IsOver ss = ⊥

-- the configuration has one activation, with nothing left to do or a return next
abbrev pub IsAtEnd : Config → Type 0
IsAtEnd c = (c.below ≡ []) × IsOver c.top.rest
