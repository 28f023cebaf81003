-- The limits on conditions, and admitted programs.
use Rattle.std.specs.Prelude.{◌≡◌, ℕ, ◌+◌, ◌<◌, ◌≤◌, List, length, Any, Contains}
use Rattle.gh_ast.specs.Plain.{Procedure, Program}
use Rattle.gh_ast.specs.Lists.{IsFirstWith}
use Rattle.gh_ast.specs.Rules.{IsTyped}
use Rattle.gh_ast.specs.Limits.{KeepsLimits, IsLimit}
use Rattle.gh_ast.specs.declared.typed.Limit.{Limit}
use Rattle.gh_path.specs.Conditions.{courses_of}
use Rattle.gh_path.specs.Terms.{terms_of, versions_of}

-- the most conditions of a procedure, and the most steps of a condition
abbrev pub most_conditions : ℕ
most_conditions = 1024

abbrev pub most_steps : ℕ
most_steps = 256

-- the limit 4 is passed: the procedure has more conditions
abbrev pub HasManyPaths : Program → Procedure → Type 0
HasManyPaths P proc = most_conditions < length (courses_of P proc)

-- .. or it isn't
abbrev pub HasFewPaths : Program → Procedure → Type 0
HasFewPaths P proc = length (courses_of P proc) ≤ most_conditions

-- the limit 5 is passed: one of its conditions has more steps
abbrev pub HasManySteps : Program → Procedure → Type 0
HasManySteps P proc = Any (λ c. most_steps < length c.way.steps) (courses_of P proc)

-- the most terms, and the most versions of the heap, of a condition
abbrev pub most_terms : ℕ
most_terms = 32

abbrev pub most_versions : ℕ
most_versions = 24

-- the limit 6 is passed: one of its conditions has more terms
abbrev pub HasManyTerms : Program → Procedure → Type 0
HasManyTerms P proc = Any (λ c. most_terms < length (terms_of P proc c.start c.way)) (courses_of P proc)

-- the limit 7 is passed: one of its conditions has more versions of the heap
abbrev pub HasManyVersions : Program → Procedure → Type 0
HasManyVersions P proc = Any (λ c. most_versions < versions_of P proc c.start c.way) (courses_of P proc)

-- no procedure of the list passes the limit
abbrev pub NoneOf : List Procedure → (Procedure → Type 0) → Type 0
NoneOf ps Q = (p : Procedure) → Contains ps p → Q p → ⊥

-- the first procedure of the list that passes a limit on conditions; counting stops one past the limit
pub record FirstOf (ps : List Procedure) (Q : Procedure → Type 0) (kind number : ℕ) (l : Limit) : Type 0 where
  pub procedure : Procedure
  pub first : IsFirstWith Q ps procedure
  pub kind_is : l.kind ≡ kind
  pub span : l.span ≡ procedure.name.span
  pub count : l.count ≡ number

-- the same of all procedures of a program
abbrev pub NoneHas : Program → (Procedure → Type 0) → Type 0
NoneHas P Q = NoneOf P.procedures Q

abbrev pub Passed : Program → (Procedure → Type 0) → ℕ → ℕ → Limit → Type 0
Passed P Q kind number l = FirstOf P.procedures Q kind number l

-- the limit that is answered: kinds in order, each over the whole program before the next
pub data IsFirstLimit (P : Program) (l : Limit) : Type 0 where
  of_text : IsLimit P l → IsFirstLimit P l
  paths : KeepsLimits P → Passed P (HasManyPaths P) 4 (most_conditions + 1) l → IsFirstLimit P l
  steps : KeepsLimits P → NoneHas P (HasManyPaths P) → Passed P (HasManySteps P) 5 (most_steps + 1) l → IsFirstLimit P l
  terms : KeepsLimits P → NoneHas P (HasManyPaths P) → NoneHas P (HasManySteps P)
      → Passed P (HasManyTerms P) 6 (most_terms + 1) l → IsFirstLimit P l
  versions : KeepsLimits P → NoneHas P (HasManyPaths P) → NoneHas P (HasManySteps P) → NoneHas P (HasManyTerms P)
      → Passed P (HasManyVersions P) 7 (most_versions + 1) l → IsFirstLimit P l

-- no rule is broken, and no counted quantity passes its limit
pub record IsAdmitted (P : Program) : Type 0 where
  pub typed : IsTyped P
  pub limits : KeepsLimits P
  pub paths : NoneHas P (HasManyPaths P)
  pub steps : NoneHas P (HasManySteps P)
  pub terms : NoneHas P (HasManyTerms P)
  pub versions : NoneHas P (HasManyVersions P)
