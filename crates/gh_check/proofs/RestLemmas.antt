-- Sets of literals to which unit propagation adds nothing, and clauses that don't follow.
use Rattle.std.proofs.Common.{◌≡◌, ◌∙◌, inl, inr, ◌+◌, ◌<◌, ℕ, zero, suc, List, [], ◌∷◌, ◌++◌, length, map, take}
use Rattle.std.proofs.Common.{get_or, true, false, Option, Some, None, All, sym, ap, subst, arith}
use Rattle.std.specs.Prelude.{Contains, is_some, slice_index_or, unwrap_or}
use Rattle.std.proofs.lemmas.List.{take_more}
use Rattle.std.proofs.lemmas.List.Elements.{All-head, All-tail, All-cons, All-append, All-contains, All-map}
use Rattle.std.proofs.lemmas.List.Elements.{Contains-get_or, Contains-append_left, Contains-append_right}
use Rattle.gh_base.specs.declared.atom.Lit.{Lit}
use Rattle.gh_base.specs.declared.sizes.Sizes.{Sizes}
use Rattle.gh_base.specs.Atoms.{opposite, IsInRange, AreInRange}
use Rattle.gh_base.specs.Propagation.{Propagated, given, forced, FollowsByUnits}
use Rattle.gh_base.specs.Hints.{HasAllButOne}
use Rattle.gh_sat.specs.Theory.{IsRefutedBy}
use Rattle.gh_check.specs.Kept.{present}
use Rattle.gh_check.specs.Truths.{IsConsistent}
use Rattle.gh_check.specs.RootUnits.{IsAtRest, AreAtRest, IsRefusedBy}
use Rattle.gh_check.proofs.AssumingLemmas.{lit_cases}
use Rattle.gh_check.proofs.TruthLemmas.{twice}
use Rattle.gh_check.proofs.UnitsLemmas.{present_append}

pub in_range : (s : Sizes) (clause : List Lit) (m : Lit) → AreInRange s clause → Contains clause m → IsInRange s m.atom
in_range s clause m ranged in_c = All-contains (λ (x : Lit). IsInRange s x.atom) clause m ranged in_c

-- two literals aren't false
pub open_rests : (s : Sizes) (set clause : List Lit) → AreInRange s clause
    → (IsRefutedBy set clause → ⊥) × ((l : Lit) → HasAllButOne set clause l → ⊥) → IsAtRest set clause
open_rests s set clause ranged two = record {
  not_false = two.0;
  forced = λ l there rest. absurd (two.1 l (record {
    there = there;
    missing = λ w. two.0 (λ k d lt.
        let m : Lit = get_or clause k d in
        let in_c = Contains-get_or clause k d lt in
        elim (lit_cases s m l (in_range s clause m ranged in_c) (in_range s clause l ranged there)) as
        (λ _. Contains set (opposite m)) [
          | inl e ↦ subst (λ (x : Lit). Contains set (opposite x)) (sym e) w
          | inr ne ↦ rest m in_c ne
        ]);
    others = rest;
  }));
}

-- one literal isn't false, and that is true
pub unit_rests : (s : Sizes) (set clause : List Lit) (one : Lit) → AreInRange s clause → HasAllButOne set clause one
    → Contains set one → IsAtRest set clause
unit_rests s set clause one ranged h has = record {
  not_false = λ all. h.missing (All-contains (λ m. Contains set (opposite m)) clause one all h.there);
  forced =
      λ l there rest. elim (lit_cases s one l (in_range s clause one ranged h.there) (in_range s clause l ranged there))
      as (λ _. Contains set l) [
        | inl e ↦ subst (Contains set) e has
        | inr ne ↦ absurd (h.missing (rest one h.there ne))
      ];
}

pub true_by : (set : List Lit) (one negated : Lit) → negated ≡ opposite one → Contains set (opposite negated)
    → Contains set one
true_by set one negated e w = subst (Contains set) (ap opposite e ∙ twice one) w

pub false_by : (set : List Lit) (one negated : Lit) → negated ≡ opposite one → Contains set one
    → Contains set (opposite negated)
false_by set one negated e w = subst (Contains set) (sym (ap opposite e ∙ twice one)) w

-- the clauses at positions, one after the other
none_rest : (set : List Lit) → All (IsAtRest set) []
none_rest set k d lt = absurd (omega arith)

pub no_clause_rests : (set : List Lit) (o : Option (List Lit)) → is_some o ≡ false → AreAtRest set (o ∷ [])
no_clause_rests set None e = none_rest set
no_clause_rests set (Some c) e = absurd (cc)

pub clause_rests : (set : List Lit) (o : Option (List Lit)) (c : List Lit) → is_some o ≡ true → c ≡ unwrap_or o []
    → IsAtRest set c → AreAtRest set (o ∷ [])
clause_rests set None c e is h = absurd (cc)
clause_rests set (Some d) c e is h = All-cons (IsAtRest set) d [] (subst (IsAtRest set) is h) (none_rest set)

pub clause_there : (set : List Lit) (o : Option (List Lit)) (c : List Lit) → is_some o ≡ true → c ≡ unwrap_or o []
    → AreAtRest set (o ∷ []) → IsAtRest set c
clause_there set None c e is h = absurd (cc)
clause_there set (Some d) c e is h = subst (IsAtRest set) (sym is) (All-head (IsAtRest set) d [] h)

pub rest_at : (set : List Lit) (entries : List (Option (List Lit))) (i : ℕ) → AreAtRest set entries
    → AreAtRest set (slice_index_or entries i None ∷ [])
rest_at set [] i all = none_rest set
rest_at set (None ∷ es) zero all = none_rest set
rest_at set (Some c ∷ es) zero all =
    All-cons (IsAtRest set) c [] (All-head (IsAtRest set) c (present es) all) (none_rest set)
rest_at set (None ∷ es) (suc i) all = rest_at set es i all
rest_at set (Some c ∷ es) (suc i) all = rest_at set es i (All-tail (IsAtRest set) c (present es) all)

pub rest_first : (set : List Lit) (entries : List (Option (List Lit))) → AreAtRest set (take 0 entries)
rest_first set entries = none_rest set

pub rest_more : (set : List Lit) (entries : List (Option (List Lit))) (i : ℕ) → i < length entries
    → AreAtRest set (take i entries) → AreAtRest set (slice_index_or entries i None ∷ [])
    → AreAtRest set (take (i + 1) entries)
rest_more set entries i lt before here =
    let e = slice_index_or entries i None in
    let longer = ap present (take_more entries i None lt) ∙ present_append (take i entries) (e ∷ []) in
    subst (All (IsAtRest set)) (sym longer)
    (All-append (IsAtRest set) (present (take i entries)) (present (e ∷ [])) before here)

-- no literal of either set is false by both
pub apart_by : (fixed above : List Lit) → All (λ l. Contains (fixed ++ above) (opposite l) → ⊥) fixed
    → All (λ l. Contains (fixed ++ above) (opposite l) → ⊥) above → IsConsistent (fixed ++ above)
apart_by fixed above one other l w =
    All-contains (λ m. Contains (fixed ++ above) (opposite m) → ⊥) (fixed ++ above) l
    (All-append (λ m. Contains (fixed ++ above) (opposite m) → ⊥) fixed above one other) w

pub apart_first : (fixed above : List Lit) → IsConsistent (fixed ++ above)
    → All (λ l. Contains (fixed ++ above) (opposite l) → ⊥) fixed
apart_first fixed above apart k d lt =
    apart (get_or fixed k d) (Contains-append_left fixed above (get_or fixed k d) (Contains-get_or fixed k d lt))

pub apart_second : (fixed above : List Lit) → IsConsistent (fixed ++ above)
    → All (λ l. Contains (fixed ++ above) (opposite l) → ⊥) above
apart_second fixed above apart k d lt =
    apart (get_or above k d) (Contains-append_right fixed above (get_or above k d) (Contains-get_or above k d lt))

-- what propagation gives from literals of such a set is in it
all_there : (clauses : List (List Lit)) (set assumed : List Lit) → All (Contains set) assumed
    → All (IsAtRest set) clauses → (l : Lit) → Propagated clauses assumed l → Contains set l
all_there clauses set assumed base rests _ (given l there) = All-contains (Contains set) assumed l base there
all_there clauses set assumed base rests _ (forced c l among there rest) =
    (All-contains (IsAtRest set) clauses c rests among).forced l there
    (λ m in_c ne. all_there clauses set assumed base rests (opposite m) (rest m in_c ne))

pub never_follows : (clauses : List (List Lit)) (set lits : List Lit) → IsRefutedBy set lits → IsConsistent set
    → All (IsAtRest set) clauses → FollowsByUnits clauses lits → ⊥
never_follows clauses set lits falses apart rests follows =
    let all = all_there clauses set (map opposite lits) (All-map (Contains set) opposite lits falses) rests in
    elim follows as (λ _. ⊥) [
      | inl w ↦ apart w.0 (all w.0 w.1) (all (opposite w.0) w.2)
      | inr w ↦ (All-contains (IsAtRest set) clauses w.0 rests w.1).not_false
          (λ k d lt. all (opposite (get_or w.0 k d)) (w.2 k d lt))
    ]

pub refused_by : (entries : List (Option (List Lit))) (set lits : List Lit) → IsRefusedBy entries set lits
    → FollowsByUnits (present entries) lits → ⊥
refused_by entries set lits h follows =
    never_follows (present entries) set lits h.falsified h.closed.consistent h.closed.at_rest follows
