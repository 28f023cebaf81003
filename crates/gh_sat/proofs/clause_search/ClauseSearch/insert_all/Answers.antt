use Rattle.std.proofs.Common.{◌≡◌, ◌≤◌, ◌+◌, ◌∙◌, ◌++◌, ◌∷◌, [], ℕ, zero, suc, List, Some, None, arith, ap, sym, take}
use Rattle.std.proofs.Common.{take_all, length}
use Rattle.std.specs.Prelude.{slice_get}
use Rattle.std.proofs.lemmas.List.{take_more}
use Rattle.std.proofs.lemmas.Option.{get_or_from_slice_get}
use Rattle.gh_base.specs.declared.atom.Lit.{Lit}
use Rattle.gh_base.specs.declared.sizes.Sizes.{Sizes}
use Rattle.gh_base.specs.Atoms.{AreInRange}
use Rattle.std.proofs.Common.{subst}
use Rattle.gh_sat.specs.Trail.{SearchState, most_clauses}
use Rattle.gh_sat.specs.Learn.{add_clause}
use Rattle.gh_base.proofs.ListLemmas.{get_within}
use Rattle.gh_sat.proofs.clause_search.ClauseSearch.insert_all.Goals.{In_default}
use Rattle.gh_sat.proofs.clause_search.ClauseSearch.insert_all.Goals as goal

none_past : {X : Type 0} (xs : List X) (i : ℕ) → slice_get xs i ≡ None → length xs ≤ i
none_past [] i e = omega arith
none_past (x ∷ xs) zero e = cc
none_past (x ∷ xs) (suc i) e = omega (arith, none_past xs i e)

pub loop-clause-preserved : goal.loop-clause-preserved
loop-clause-preserved c =
    let cs = c.args.ground.now.clauses in
    let n = c.loop-clause.number in
    let cl = c.in-Some.clause.now in
    let at : slice_get cs n ≡ Some cl = sym c.in-Some.ensures.found in
    let lt = get_within cs n cl at in
    let longer : take (n + 1) cs ≡ take n cs ++ cl ∷ [] =
    take_more cs n cl lt ∙ ap (λ (x : List Lit). take n cs ++ x ∷ []) (get_or_from_slice_get cs n cl cl at) in
    record {
      within = omega arith;
      few = c.in_ok-insert.ensures.few;
      so_far = c.in_ok-insert.ensures.ok
          ∙ ap (λ (t : SearchState). add_clause t c.in_ok-copy.field-0) c.loop-clause.invariant.so_far
          ∙ ap (λ (x : List (List Lit)).
          let t : SearchState = record { sizes = c.args.ground.now.sizes; clauses = x; trail = []; starts = [] } in t)
          (ap (λ (x : List Lit). take n cs ++ x ∷ []) c.in_ok-copy.ensures ∙ sym longer);
    }

-- all clauses were added
all_taken : (c : In_default) → take c.loop-clause.number c.args.ground.now.clauses ≡ c.args.ground.now.clauses
all_taken c =
    let cs = c.args.ground.now.clauses in
    let past : length cs ≤ c.loop-clause.number = none_past cs c.loop-clause.number (sym c.in_default.ensures.found) in
    take_all c.loop-clause.number cs past

pub returns-clause-over : goal.returns-clause-over
returns-clause-over c =
    c.loop-clause.invariant.so_far ∙ ap (λ (x : List (List Lit)).
    let t : SearchState = record { sizes = c.args.ground.now.sizes; clauses = x; trail = []; starts = [] } in t)
    (all_taken (goal.at.returns-clause-over c).In_default)

pub returns-clause-few : goal.returns-clause-few
returns-clause-few c =
    let all = all_taken (goal.at.returns-clause-few c).In_default in
    let is : c.loop-clause.self.clauses ≡ c.args.ground.now.clauses =
    ap (λ (t : SearchState). t.clauses) c.loop-clause.invariant.so_far ∙ all in
    subst (λ (x : List (List Lit)). length x ≤ most_clauses) is c.loop-clause.invariant.few

pub insert-requires-clause-range : goal.insert-requires-clause-range
insert-requires-clause-range c =
    let sized : c.loop-clause.self.sizes ≡ c.args.ground.now.sizes =
    ap (λ (t : SearchState). t.sizes) c.loop-clause.invariant.so_far in
    let range : AreInRange c.loop-clause.self.sizes c.in-Some.clause.now =
    subst (λ (z : Sizes). AreInRange z c.in-Some.clause.now) (sym sized) c.in-Some.ensures.in_range in
    subst (λ (l : List Lit). AreInRange c.loop-clause.self.sizes l) (sym c.in_ok-copy.ensures) range

pub loop-clause-smaller : goal.loop-clause-smaller
loop-clause-smaller c =
    let lt = get_within c.args.ground.now.clauses c.loop-clause.number c.in-Some.clause.now
    (sym c.in-Some.ensures.found) in omega (arith, lt)
