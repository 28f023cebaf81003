-- A search each of whose clauses has a true literal, with no conflict, has a model.
use Rattle.std.proofs.Common.{◌≡◌, ◌≤◌, List, get_or, sym, subst, ◌∙◌, All}
use Rattle.std.proofs.lemmas.List.Elements.{All-contains, Contains-get_or}
use Rattle.gh_base.specs.declared.atom.Lit.{Lit}
use Rattle.gh_base.specs.declared.sizes.Sizes.{Sizes}
use Rattle.gh_base.specs.Atoms.{IsInRange, AreInRange}
use Rattle.gh_base.specs.Grounds.{Problem}
use Rattle.gh_base.specs.Meaning.{Interpretation, IsClauseTrue, IsCongruence, IsLitTrue}
use Rattle.gh_log.specs.Lines.{LogLine}
use Rattle.gh_sat.specs.Theory.{lits_of}
use Rattle.gh_sat.specs.Trail.{SearchState, IsSound}
use Rattle.gh_ground.specs.Kept.{HasLineEach, IsUndecided}
use Rattle.gh_sat.proofs.TheoryLemmas.{in_lits, lits_in}
use Rattle.gh_cc.specs.Partials.{IsStructureOf}
use Rattle.gh_cc.proofs.PartialLemmas.{are_congruences, are_asserted_true}
use Rattle.gh_ground.specs.Laws.{AreClausesTrue}

-- the literals of a trail are in range
pub trail_range : (s : SearchState) → IsSound s → AreInRange s.sizes (lits_of s.trail)
trail_range s sound k d lt =
    let l : Lit = get_or (lits_of s.trail) k d in
    let w = in_lits s.trail l (Contains-get_or (lits_of s.trail) k d lt) in
    subst (λ (x : Lit). IsInRange s.sizes x.atom) w.4 (sound.steps.range w.0 w.1 w.3)

pub are_clauses_true : AreClausesTrue
are_clauses_true s m st sound known satisfied k d lt =
    let w = satisfied k d lt in
    let all = are_asserted_true s.sizes (lits_of s.trail) m st (trail_range s sound) known in
    (w.1.0, w.0, w.1.1, w.1.2, All-contains (IsLitTrue m) (lits_of s.trail) w.0 all (lits_in s.trail w.0 w.2))

pub some_terms : (p : Problem) (s : SearchState) (lines : List LogLine) (sizes : Sizes) → HasLineEach p s lines
    → sizes ≡ s.sizes → 1 ≤ sizes.terms
some_terms p s lines sizes k e = subst (λ (z : Sizes). 1 ≤ z.terms) (sym (e ∙ k.sizes)) k.problem.terms

pub some_versions : (p : Problem) (s : SearchState) (lines : List LogLine) (sizes : Sizes) → HasLineEach p s lines
    → sizes ≡ s.sizes → 1 ≤ sizes.versions
some_versions p s lines sizes k e = subst (λ (z : Sizes). 1 ≤ z.versions) (sym (e ∙ k.sizes)) k.problem.versions

module _ (s : SearchState) (sizes : Sizes) (lits : List Lit) (e : sizes ≡ s.sizes) (f : lits ≡ lits_of s.trail) where
  pub range_of : IsSound s → AreInRange sizes lits
  range_of sound = subst (λ (z : Sizes). AreInRange z lits) (sym e)
      (subst (AreInRange s.sizes) (sym f) (trail_range s sound))

  structure : (m : Interpretation) → IsStructureOf sizes lits m → IsStructureOf s.sizes (lits_of s.trail) m
  structure m made = subst (λ (z : Sizes). IsStructureOf z (lits_of s.trail) m) e
      (subst (λ (ls : List Lit). IsStructureOf sizes ls m) f made)

  pub is_congruence : (m : Interpretation) → IsStructureOf sizes lits m → IsCongruence s.sizes m
  is_congruence m made = are_congruences s.sizes (lits_of s.trail) m (structure m made)

  pub clauses_true : (m : Interpretation) → IsStructureOf sizes lits m → IsUndecided s
      → All (IsClauseTrue m) s.clauses
  clauses_true m made calm = are_clauses_true s m (structure m made) calm.sound calm.known calm.satisfied
