-- What is left of a condition when its walk has come to some terms.
use Rattle.std.specs.Prelude.{◌≡◌, List}
use Rattle.gh_ast.specs.Plain.{Procedure, Program}
use Rattle.gh_path.specs.Graphs.{PathStep}
use Rattle.gh_path.specs.Conditions.{Condition}
use Rattle.gh_path.specs.Terms.{Terms, steps_walked}
use Rattle.gh_symb.specs.Symbolic.{begins}

-- the steps that are left lead to the terms to which all steps lead
abbrev pub Remains : Program → Procedure → List PathStep → Condition → Terms → Type 0
Remains P proc steps c s = steps_walked P proc steps s ≡ steps_walked P proc c.way.steps (begins proc c.start)
