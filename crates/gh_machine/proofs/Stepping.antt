-- What the turn of one statement comes to.
use Rattle.std.specs.Prelude.{◌≡◌, ◌≢◌, List, [], ◌∷◌, ◌++◌}
use Rattle.std.proofs.Common.{refl, sym, ◌∙◌, ap, subst, inl, inr}
use Rattle.gh_ast.specs.declared.Stmt.{Stmt}
use Rattle.gh_ast.specs.Plain.{Statements, statement_first, statement_of, statements_view, Procedure, Program}
use Rattle.gh_ast.specs.Programs.{Name, name_of, joined, IsFirstNamed}
use Rattle.gh_assert.specs.Heaps.{Heap}
use Rattle.gh_assert.specs.Meaning.{Store}
use Rattle.gh_machine.specs.Machine.{Config, continuing, StepOn, FaultOn}
use Rattle.gh_machine.specs.Choices.{Follows}
use Rattle.gh_machine.specs.Configs.{IsNext, IsReturn, Misfits, chosen}
use Rattle.gh_machine.specs.Turns.{AlwaysNext}
use Rattle.gh_machine.specs.declared.step.Choice.{Choice}
use Rattle.gh_machine.specs.declared.step.Next.TheVariants.{Moved, Fault}

pub continued : (c : Config) (t t' : Store) (h h' : Heap) (r r' : Statements) → t ≡ t' → h ≡ h' → r ≡ r'
    → continuing c t h r ≡ continuing c t' h' r'
continued c t t' h h' r r' p q e =
    ap (λ x. continuing c x h r) p ∙ ap (λ x. continuing c t' x r) q ∙ ap (λ x. continuing c t' h' x) e

-- a step by the statement that comes next
pub moves : (P : Program) (ch : Choice) (c d : Config) (r : Statements) → c.top.rest ≡ r → StepOn P r c d
    → Follows (chosen ch d.top.procedure) r c d → (IsReturn r → ⊥) → (Misfits P ch r c.heap → ⊥) → IsNext P ch Moved c d
moves P ch c d r e st follows other fits = (
  (subst (λ s. StepOn P s c d) (sym e) st, subst (λ s. Follows (chosen ch d.top.procedure) s c d) (sym e) follows),
  λ last. other (subst IsReturn e last.1),
  λ m. fits (subst (λ s. Misfits P ch s c.heap) e m),
)

pub faults : (c : Config) (r : Statements) → c.top.rest ≡ r → FaultOn r c.top.store c.heap → AlwaysNext Fault c c
faults c r e f P ch = (subst (λ s. FaultOn s c.top.store c.heap) (sym e) f, refl)

-- a return of the only activation
pub joined_view : (xs ys : List Stmt) → statements_view (xs ++ ys) ≡ joined (statements_view xs) (statements_view ys)
joined_view [] ys = refl
joined_view (x ∷ xs) ys = ap (statement_first (statement_of x)) (joined_view xs ys)

-- the first of the name is the same in both lists
pub record SameFirst (ps qs : List Procedure) (f : Name) : Type 0 where
  pub there : (q : Procedure) → IsFirstNamed ps f q → IsFirstNamed qs f q
  pub back : (q : Procedure) → IsFirstNamed qs f q → IsFirstNamed ps f q

pub same_first : (ps : List Procedure) (f : Name) → SameFirst ps ps f
same_first ps f = record { there = λ q d. d; back = λ q d. d }

pub same_further : (ps : List Procedure) (r : Procedure) (qs : List Procedure) (f : Name) → SameFirst ps (r ∷ qs) f
    → (name_of r ≢ f) → SameFirst ps qs f
same_further ps r qs f same other = record {
  there = λ q d. elim (same.there q d) [ inl (is, e) ↦ absurd (other is) | inr (n, more) ↦ more ];
  back = λ q d. same.back q (inr (other, d));
}
