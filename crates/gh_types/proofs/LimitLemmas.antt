-- Searches for a passed limit, part by part.
use Rattle.std.proofs.Common.{◌≡◌, ℕ, zero, suc, ◌+◌, ◌-◌, ◌<◌, ◌≤◌, inl, inr, List, [], ◌∷◌, ◌++◌, length, take, drop}
use Rattle.std.proofs.Common.{get_or, map, length-append, append_assoc, refl, sym, ◌∙◌, ap, subst, arith}
use Rattle.std.proofs.lemmas.Bool.{cases_lt}
use Rattle.std.proofs.lemmas.List.{take_all, length-map, map-append, get_or_append_left, get_or-append-add}
use Rattle.std.proofs.lemmas.List.Elements.{All-nil, All-cons, All-append}
use Rattle.std.proofs.lemmas.List.Sums.{sum_by-cons}
use Rattle.std.specs.Prelude.{Option, None, Some, MatchOption, All, Any, sum}
use Rattle.std.specs.List.{flat_map}
use Rattle.gh_ast.specs.declared.Assertion.{Assertion}
use Rattle.gh_ast.specs.declared.Stmt.{Stmt}
use Rattle.gh_ast.specs.declared.Block.{Block}
use Rattle.gh_ast.proofs.PlainLemmas.{part_of-statements}
use Rattle.gh_ast.specs.declared.Procedure as whole
use Rattle.gh_ast.specs.Plain.{Procedure, Program, assertion_of, assertions_view, procedure_of, statement_of}
use Rattle.gh_ast.specs.Plain.{statements_view, block_of}
use Rattle.gh_ast.specs.Limits.{atoms, all_atoms, reported, invariants_in, all_invariants_in, AreFew, HaveFewVariables}
use Rattle.gh_ast.specs.Limits.{HaveFewAtoms, KeepsLimits, AtomsPassed, IsLimit, of_atoms}
use Rattle.gh_ast.specs.declared.typed.Limit.{Limit}
use Rattle.gh_ast.specs.Lists.{IsFirstWith}
use Rattle.gh_types.specs.LimitChecks.{FindsMany}
use Rattle.gh_types.proofs.FirstLemmas.{turn}

-- the first with a property, in a front and in a back
with_left : {X : Type 0} (P : X → Type 0) (xs ys : List X) (x : X) → IsFirstWith P xs x → IsFirstWith P (xs ++ ys) x
with_left P xs ys x h = record {
  place = h.place;
  within = omega (arith, h.within, length-append xs ys);
  element = get_or_append_left xs ys x h.place h.within ∙ h.element;
  holds = h.holds;
  earlier = λ j d l holds. h.earlier j d l (subst P (get_or_append_left xs ys d j (omega (arith, h.within))) holds);
}

with_right : {X : Type 0} (P : X → Type 0) (xs ys : List X) (y : X)
    → ((j : ℕ) (d : X) → j < length xs → P (get_or xs j d) → ⊥) → IsFirstWith P ys y → IsFirstWith P (xs ++ ys) y
with_right P xs ys y none h = record {
  place = length xs + h.place;
  within = omega (arith, h.within, length-append xs ys);
  element = get_or-append-add xs ys h.place y ∙ h.element;
  holds = h.holds;
  earlier = λ j d l holds. elim (cases_lt j (length xs)) [
    | inl a ↦ none j d a (subst P (get_or_append_left xs ys d j a) holds)
    | inr b ↦
        let same : j ≡ length xs + (j - length xs) = omega arith in
        h.earlier (j - length xs) d (omega arith)
        (subst P (ap (λ k. get_or (xs ++ ys) k d) same ∙ get_or-append-add xs ys (j - length xs) d) holds)
  ];
}

-- a search in a front and in a back
pub finds_left : (xs ys : List ℕ) (c : ℕ) → FindsMany xs (Some c) → FindsMany (xs ++ ys) (Some c)
finds_left xs ys c h = record {
  says =
      record { many = h.says.many; first = with_left (λ n. 32 < n) xs ys h.says.many h.says.first; count = h.says.count };
}

pub finds_right : (xs ys : List ℕ) (found : Option ℕ) → FindsMany xs None → FindsMany ys found
    → FindsMany (xs ++ ys) found
finds_right xs ys None h g = record { says = All-append (λ n. n ≤ 32) xs ys h.says g.says }
finds_right xs ys (Some c) h g = record {
  says = record {
    many = g.says.many;
    first = with_right (λ n. 32 < n) xs ys g.says.many (λ j d l p. omega (arith, h.says j d l)) g.says.first;
    count = g.says.count;
  };
}

pub finds_none : FindsMany [] None
finds_none = record { says = λ j d l. absurd (omega arith) }

-- lists of statements
pub invariants_flat : (ss : List Stmt)
    → map atoms (all_invariants_in (statements_view ss)) ≡ flat_map (λ s. map atoms (invariants_in (statement_of s))) ss
invariants_flat [] = refl
invariants_flat (s ∷ ss) =
    map-append atoms (invariants_in (statement_of s)) (all_invariants_in (statements_view ss))
    ∙ ap (λ r. map atoms (invariants_in (statement_of s)) ++ r) (invariants_flat ss)

split_suc : {X Y : Type 0} (f : X → List Y) (xs : List X) (k : ℕ) (x : X) → k < length xs → x ≡ get_or xs k x
    → flat_map f xs ≡ flat_map f (take k xs) ++ (f x ++ flat_map f (drop (suc k) xs))
split_suc f [] k x h e = absurd (omega arith)
split_suc f (y ∷ xs) zero x h e = rw e refl
split_suc f (y ∷ xs) (suc k) x h e =
    ap (λ r. f y ++ r) (split_suc f xs k x (omega arith) e)
    ∙ sym (append_assoc (f y) (flat_map f (take k xs)) (f x ++ flat_map f (drop (suc k) xs)))

pub finds_here : (f : Stmt → List ℕ) (ss : List Stmt) (k : ℕ) (s : Stmt) (c : ℕ) → k < length ss → s ≡ get_or ss k s
    → FindsMany (flat_map f (take k ss)) None → FindsMany (f s) (Some c) → FindsMany (flat_map f ss) (Some c)
finds_here f ss k s c h e none here =
    rw (split_suc f ss k s h e)
    (finds_right (flat_map f (take k ss)) (f s ++ flat_map f (drop (suc k) ss)) (Some c) none
    (finds_left (f s) (flat_map f (drop (suc k) ss)) c here))

pub finds_more : (f : Stmt → List ℕ) (ss : List Stmt) (k : ℕ) (s : Stmt) → k < length ss → s ≡ get_or ss k s
    → FindsMany (flat_map f (take k ss)) None → FindsMany (f s) None → FindsMany (flat_map f (take (k + 1) ss)) None
finds_more f ss k s h e none here = rw (turn f ss k s h e) (finds_right (flat_map f (take k ss)) (f s) None none here)

pub finds_all : (f : Stmt → List ℕ) (ss : List Stmt) (k : ℕ) → length ss ≤ k → FindsMany (flat_map f (take k ss)) None
    → FindsMany (flat_map f ss) None
finds_all f ss k h none = subst (λ (xs : List Stmt). FindsMany (flat_map f xs) None) (take_all k ss h) none

-- a search in a list of one
pub one_found : (n c : ℕ) (found : Option ℕ) → c ≡ reported n → MatchOption found (c ≤ 32) (λ m. (m ≡ c) × (32 < c))
    → FindsMany (n ∷ []) found
one_found n c None e few = record { says = All-cons (λ m. m ≤ 32) n [] (omega arith) (All-nil (λ m. m ≤ 32)) }
one_found n c (Some m) e (same, many) = record {
  says = record {
    many = n;
    first = record {
      place = 0;
      within = omega arith;
      element = refl;
      holds = omega arith;
      earlier = λ j d l _. omega arith;
    };
    count = same ∙ e;
  };
}

-- the atoms of alternatives, as of the members of one list
pub atoms_together : (fs : List Assertion) → all_atoms (assertions_view fs) ≡ sum (map atoms (map assertion_of fs))
atoms_together [] = refl
atoms_together (f ∷ fs) =
    ap (λ n. atoms (assertion_of f) + n) (atoms_together fs)
    ∙ sym (sum_by-cons (λ n. n) (atoms (assertion_of f)) (map atoms (map assertion_of fs)))

-- a walk over procedures in their plain forms
map_here : {X Y : Type 0} (f : X → Y) (xs : List X) (k : ℕ) (x : X) (d : Y) → k < length xs → x ≡ get_or xs k x
    → get_or (map f xs) k d ≡ f x
map_here f [] k x d h e = absurd (omega arith)
map_here f (y ∷ xs) zero x d h e = ap f (sym e)
map_here f (y ∷ xs) (suc k) x d h e = map_here f xs k x d (omega arith) e

pub first_there : (P : Procedure → Type 0) (ps : List whole.Procedure) (k : ℕ) (proc : whole.Procedure) → k < length ps
    → proc ≡ get_or ps k proc
    → P (procedure_of proc) → ((j : ℕ) (d : Procedure) → j < k → P (get_or (map procedure_of ps) j d) → ⊥)
    → IsFirstWith P (map procedure_of ps) (procedure_of proc)
first_there P ps k proc h e here before = record {
  place = k;
  within = rw length-map h;
  element = map_here procedure_of ps k proc (procedure_of proc) h e;
  holds = here;
  earlier = before;
}

-- each so far, and one more
pub all_more : (Q : Procedure → Type 0) (ps : List whole.Procedure) (k : ℕ) (p : whole.Procedure) → k < length ps
    → p ≡ get_or ps k p
    → ((j : ℕ) (d : Procedure) → j < k → Q (get_or (map procedure_of ps) j d)) → Q (procedure_of p)
    → (j : ℕ) (d : Procedure) → j < k + 1 → Q (get_or (map procedure_of ps) j d)
all_more Q ps k p h e before here j d l = elim (cases_lt j k) [
  | inl a ↦ before j d a
  | inr b ↦
      let same : k ≡ j = omega arith in
      subst (λ (i : ℕ). Q (get_or (map procedure_of ps) i d)) same
      (subst Q (sym (map_here procedure_of ps k p d h e)) here)
]

pub all_whole : (Q : Procedure → Type 0) (ps : List whole.Procedure) (k : ℕ) → length ps ≤ k
    → ((j : ℕ) (d : Procedure) → j < k → Q (get_or (map procedure_of ps) j d)) → All Q (map procedure_of ps)
all_whole Q ps k h all j d l = let short : j < length ps = rw length-map at l in all j d (omega arith)

-- a number that is too high, and none
pub some_many : (ns : List ℕ) (c : ℕ) → FindsMany ns (Some c) → Any (λ n. 32 < n) ns
some_many ns c h = (h.says.first.place, h.says.many, h.says.first.within, h.says.first.element, h.says.first.holds)

pub none_many : (ns : List ℕ) → All (λ n. n ≤ 32) ns → Any (λ n. 32 < n) ns → ⊥
none_many ns all (k, n, l, e, p) = let few : n ≤ 32 = subst (λ m. m ≤ 32) e (all k n l) in omega arith

-- what is found in the statements of a block
pub at_items : (ss : List Stmt) (b : Block) (found : Option ℕ) → ss ≡ b.statements.items
    → FindsMany (map atoms (all_invariants_in (statements_view ss))) found
    → FindsMany (map atoms (all_invariants_in (block_of b).statements)) found
at_items ss b found e h =
    rw (part_of-statements b)
    (subst (λ (xs : List Stmt). FindsMany (map atoms (all_invariants_in (statements_view xs))) found) e h)

-- where there are few procedures and few variables, the limit on atoms is the one that is passed, or none is
pub limit_of : (p : Program) (found : Option Limit) → AreFew p → HaveFewVariables p
    → MatchOption found (HaveFewAtoms p) (AtomsPassed p.procedures) → MatchOption found (KeepsLimits p) (IsLimit p)
limit_of p None few variables h = record { procedures = few; variables = variables; atoms = h }
limit_of p (Some l) few variables h = of_atoms few variables h
