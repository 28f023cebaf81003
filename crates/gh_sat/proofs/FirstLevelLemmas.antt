-- What stands while no level is open follows by units.
use Rattle.std.proofs.Common.{◌≡◌, ◌⊎◌, ℕ, zero, suc, ◌<◌, List, [], Option, Some, None, inl, inr, subst, arith}
use Rattle.std.specs.Prelude.{slice_get}
use Rattle.std.proofs.lemmas.List.Elements.{All-contains}
use Rattle.gh_base.specs.declared.atom.Lit.{Lit}
use Rattle.gh_base.specs.Atoms.{opposite}
use Rattle.gh_base.specs.Propagation.{Propagated, forced}
use Rattle.gh_sat.specs.declared.trail.Step.{Step}
use Rattle.gh_sat.specs.Trail.{SearchState, Stands, IsOpenedOrForced, IsSound}
use Rattle.gh_base.proofs.ListLemmas.{get_within}
use Rattle.gh_sat.proofs.LearnLemmas.{in_get}

-- what a step with no level to open is given by
cause_given : (clauses : List (List Lit)) (assumed : List Lit) (trail : List Step) (starts : List ℕ) (i : ℕ) (lit : Lit)
    (level : ℕ) (reason : Option ℕ) → starts ≡ []
    → ((j : ℕ) (y : Step) → j < i → slice_get trail j ≡ Some y → Propagated clauses assumed y.lit)
    → IsOpenedOrForced clauses trail starts i lit level reason → Propagated clauses assumed lit
cause_given clauses assumed trail starts i lit level None none before c =
    let at : slice_get [] c.0 ≡ Some i = subst (λ (xs : List ℕ). slice_get xs c.0 ≡ Some i) none c.2 in
    absurd (let lt = get_within [] c.0 i at in omega arith)
cause_given clauses assumed trail starts i lit level (Some k) none before r =
    forced r.clause lit (in_get clauses k r.clause r.at) r.there
    (λ m in_c ne. elim (All-contains (λ l. (l ≡ lit) ⊎ Stands trail i (opposite l)) r.clause m r.others in_c) [
      | inl e ↦ absurd (ne e)
      | inr t ↦ subst (Propagated clauses assumed) t.4 (before t.0 t.1 t.2 t.3)
    ])

pub given_below : (s : SearchState) (assumed : List Lit) → IsSound s → s.starts ≡ [] → (n i : ℕ) (x : Step) → i < n
    → slice_get s.trail i ≡ Some x → Propagated s.clauses assumed x.lit
given_below s assumed h none zero i x lt at = absurd (omega arith)
given_below s assumed h none (suc n) i x lt at =
    cause_given s.clauses assumed s.trail s.starts i x.lit x.level x.reason none
    (λ j y below there. given_below s assumed h none n j y (omega arith) there) (h.caused i x at)
