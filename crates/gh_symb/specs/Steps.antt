-- Walks over the parts of a condition as they are kept.
use Rattle.std.specs.Prelude.{◌≡◌, ◌+◌, ◌<◌, ◌≤◌, ℕ, List, length, filter}
use Rattle.gh_ast.specs.declared.Expr.{Expr}
use Rattle.gh_ast.specs.declared.Procedure as kept
use Rattle.gh_ast.specs.declared.Stmt.{Stmt}
use Rattle.gh_ast.specs.Plain.{Procedure, Program, procedure_of, statements_view}
use Rattle.gh_ast.specs.declared.Occ.{Occ}
use Rattle.gh_ast.specs.Programs.{Name, names, variable_names}
use Rattle.gh_path.specs.Admitted.{most_terms}
use Rattle.gh_path.specs.Conditions.{Condition}
use Rattle.gh_path.specs.declared.condition.PathStep as kept_step
use Rattle.gh_path.specs.declared.condition.PathStep.TheVariants as step
use Rattle.gh_path.specs.Terms.{Kind, Terms, terms, with_value, bound, expr_used, expr_term, exprs_used, exprs_terms}
use Rattle.gh_path.specs.Terms.{rebound, renewed, some_assigns, bound_inside, walked, terms_of, versions_of}
use Rattle.gh_symb.specs.declared.count.Counted.{Counted}
use Rattle.gh_symb.specs.declared.count.Counted.TheVariants.{Within, ManyTerms}

-- each of the variables xs that the statements assign gets a new value
abbrev pub renewed_in : List Occ → List Stmt → Terms → Terms
renewed_in xs body = renewed (filter (some_assigns (statements_view body)) (names xs))

-- the same for the variables of a procedure
abbrev pub all_renewed : kept.Procedure → List Stmt → Terms → Terms
all_renewed p body = renewed (filter (some_assigns (statements_view body)) (variable_names (procedure_of p)))

-- a variable gets the place of a new cell, whose content is a new value too, in the next version
abbrev pub cell_made : Name → Terms → Terms
cell_made x s = terms (with_value (with_value s.kinds)) (bound s.bindings x (length s.kinds)) (s.version + 1)

-- a variable gets the value of an expression, which is used
abbrev pub value_set : Name → Expr → Terms → Terms
value_set x e s = let t = expr_used e s in rebound t (bound t.bindings x (expr_term e t))

-- the kinds and the version that a walk comes to
pub record EndsWith (s : Terms) (kinds : List Kind) (version : ℕ) : Type 0 where
  pub kinds_are : kinds ≡ s.kinds
  pub version_is : version ≡ s.version

-- the terms once the arguments are used and what the procedure needs is walked
abbrev pub entry_made : Procedure → List Expr → Terms → Terms
entry_made p es s = let t = exprs_used es s in walked p.needs (rebound t (bound_inside p (exprs_terms es t)))

abbrev pub ChangesCell : kept_step.PathStep → Type 0
ChangesCell (step.Write x e) = Unit {0}
ChangesCell (step.New x) = Unit {0}
ChangesCell (step.Free x) = Unit {0}
ChangesCell s = ⊥

abbrev pub KeepsHeap : kept_step.PathStep → Type 0
KeepsHeap (step.Access x) = Unit {0}
KeepsHeap (step.Assume l e r) = Unit {0}
KeepsHeap (step.Set x e) = Unit {0}
KeepsHeap (step.Return es) = Unit {0}
KeepsHeap s = ⊥

-- a condition has so many terms and versions, and no more terms than the limit
pub record AreCounted (P : Program) (proc : Procedure) (c : Condition) (terms versions : ℕ) : Type 0 where
  pub terms_are : length (terms_of P proc c.start c.way) ≡ terms
  pub versions_are : versions_of P proc c.start c.way ≡ versions
  pub few : terms ≤ most_terms

-- the numbers of terms and versions of a condition, or that there are too many terms
abbrev pub IsCount : Program → Procedure → Condition → Counted → Type 0
IsCount P proc c (Within terms versions) = AreCounted P proc c terms versions
IsCount P proc c ManyTerms = most_terms < length (terms_of P proc c.start c.way)

-- the count of each condition that has so many terms and versions
abbrev pub IsCountOf : ℕ → ℕ → Counted → Type 0
IsCountOf terms versions n =
    (P : Program) (proc : Procedure) (c : Condition) → length (terms_of P proc c.start c.way) ≡ terms
    → versions_of P proc c.start c.way ≡ versions → IsCount P proc c n
