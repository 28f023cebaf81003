-- Whether the structure of literals is a model.
use Rattle.std.proofs.Common.{◌≡◌, ◌<◌, ◌+◌, ◌∙◌, ℕ, List, [], All, Some, None, length, get_or, take, sym, subst}
use Rattle.std.specs.Prelude.{slice_get}
use Rattle.std.proofs.lemmas.Option.{get_or_from_slice_get, slice_get-get_or}
use Rattle.gh_base.specs.declared.atom.Lit.{Lit}
use Rattle.gh_base.specs.declared.sizes.Sizes.{Sizes}
use Rattle.gh_base.specs.Atoms.{AreInRange}
use Rattle.gh_base.specs.Grounds.{Problem}
use Rattle.gh_base.specs.Meaning.{Interpretation, IsClauseTrue, IsCongruence}
use Rattle.gh_base.specs.Structures.{Tables, interpretation_of}
use Rattle.gh_base.proofs.ListLemmas.{get_within}
use Rattle.gh_inst.proofs.CollectingLemmas.{take_more_all}
use Rattle.gh_inst.specs.Violations.{IsClauseTrueIn, AreAllTrueIn, AreInstancesTrue}
use Rattle.gh_cc.specs.Partials.{IsStructureOf}
use Rattle.gh_cc.proofs.PartialLemmas.{are_congruences}
use Rattle.gh_ground.specs.Solving.{IsModelOf, MakeModel}

-- a clause was looked at
pub true_more : (t : Tables) (clauses : List (List Lit)) (n : ℕ) (clause lits : List Lit)
    → slice_get clauses n ≡ Some clause → lits ≡ clause → IsClauseTrueIn t lits
    → All (IsClauseTrueIn t) (take n clauses) → All (IsClauseTrueIn t) (take (n + 1) clauses)
true_more t clauses n clause lits at is holds before =
    take_more_all (IsClauseTrueIn t) clauses n clause at before (subst (IsClauseTrueIn t) is holds)

pub not_all_true : (t : Tables) (clauses : List (List Lit)) (n : ℕ) (clause lits : List Lit)
    → slice_get clauses n ≡ Some clause → lits ≡ clause → (IsClauseTrueIn t lits → ⊥)
    → All (IsClauseTrueIn t) clauses → ⊥
not_all_true t clauses n clause lits at is no_ all =
    no_ (subst (IsClauseTrueIn t) (get_or_from_slice_get clauses n clause clause at ∙ sym is)
    (all n clause (get_within clauses n clause at)))

-- there is a clause of each number that is counted
pub clause_there : (clauses : List (List Lit)) (n : ℕ) → n < length clauses → slice_get clauses n ≡ None → ⊥
clause_there clauses n lt none = let at = slice_get-get_or clauses n [] lt in cc

module _ (p : Problem) (z : Sizes) (e : z ≡ p.sizes) (lits : List Lit) where
  pub out_of_range : (AreInRange z lits → ⊥) → MakeModel p lits → ⊥
  out_of_range no_ made = no_ (subst (λ (s : Sizes). AreInRange s lits) (sym e) made.range)

  module _ (t : Tables) (f : t.sizes ≡ z) (st : IsStructureOf z lits (interpretation_of t)) where
    here : IsStructureOf p.sizes lits (interpretation_of t)
    here = subst (λ (s : Sizes). IsStructureOf s lits (interpretation_of t)) e st

    pub clause_false : (All (IsClauseTrueIn t) p.clauses → ⊥) → MakeModel p lits → ⊥
    clause_false no_ made = no_ (made.clauses (interpretation_of t) here)

    pub instance_false : (AreAllTrueIn t → ⊥) → MakeModel p lits → ⊥
    instance_false no_ made =
        no_ (subst (λ (s : Sizes). AreInstancesTrue s (interpretation_of t)) (sym (f ∙ e))
        (made.instances (interpretation_of t) here))

    pub model_of : All (IsClauseTrueIn t) p.clauses → AreAllTrueIn t → IsModelOf p t
    model_of clauses instances = record {
      sizes = f ∙ e;
      clauses = clauses;
      instances = subst (λ (s : Sizes). AreInstancesTrue s (interpretation_of t)) (f ∙ e) instances;
      congruence = are_congruences p.sizes lits (interpretation_of t) here;
    }
