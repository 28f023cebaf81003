-- Words of programs: names, procedures by name, blocks in a row, and the variables that statements assign.
use Rattle.std.specs.Prelude.{◌≡◌, ◌≢◌, ◌⊎◌, ℕ, List, [], ◌∷◌, map, Option, Some, None, Contains}
use Rattle.gh_ast.specs.declared.Occ.{Occ}
use Rattle.gh_ast.specs.Occurrences.{variables_of}
use Rattle.gh_ast.specs.Plain.{Statement, set, new, write, free, call, if, while, return, Statements, no_statements}
use Rattle.gh_ast.specs.Plain.{statement_first, Body, Procedure, Program}

-- the characters of a name
abbrev pub Name : Type 0
Name = List ℕ

abbrev pub names : List Occ → List Name
names = map (λ o. o.name)

abbrev pub name_of : Procedure → Name
name_of p = p.name.name

abbrev pub parameters_of : Procedure → List Name
parameters_of p = names p.parameters

abbrev pub results_of : Procedure → List Name
results_of p = names p.results

-- without a body there are no statements and no locals
abbrev pub statements_in : Option Body → Statements
statements_in None = no_statements
statements_in (Some b) = b.statements

abbrev pub body_statements : Procedure → Statements
body_statements p = statements_in p.body

-- the names of the variables of a procedure, as they are numbered
abbrev pub variable_names : Procedure → List Name
variable_names p = names (variables_of p)

-- the first procedure of the name
abbrev pub IsFirstNamed : List Procedure → Name → Procedure → Type 0
IsFirstNamed [] f p = ⊥
IsFirstNamed (q ∷ qs) f p = ((name_of q ≡ f) × (p ≡ q)) ⊎ ((name_of q ≢ f) × IsFirstNamed qs f p)

-- the procedure that a call of the name means
abbrev pub Declares : Program → Name → Procedure → Type 0
Declares P f proc = IsFirstNamed P.procedures f proc

-- the statements of the first block, then those of the second
abbrev pub joined : Statements → Statements → Statements
joined no_statements rest = rest
joined (statement_first s ss) rest = statement_first s (joined ss rest)

-- the statement assigns the variable, itself or in a block of it
abbrev mutual
  pub Assigns : Statement → Name → Type 0
  Assigns (set x e) y = y ≡ x.name
  Assigns (new x) y = y ≡ x.name
  Assigns (write x e) y = ⊥
  Assigns (free x) y = ⊥
  Assigns (call xs f es) y = Contains (names xs) y
  Assigns (if t a c b d) y = SomeAssigns a y ⊎ SomeAssigns b y
  Assigns (while at t i body close) y = SomeAssigns body y
  Assigns (return at es) y = ⊥

  pub SomeAssigns : Statements → Name → Type 0
  SomeAssigns no_statements y = ⊥
  SomeAssigns (statement_first s ss) y = Assigns s y ⊎ SomeAssigns ss y
