-- A walk gives variables and successors terms that are listed.
use Rattle.std.specs.Prelude.{◌≡◌, ℕ, zero, suc, ◌+◌, ◌<◌, ◌≤◌, ◌||◌, List, [], ◌∷◌, ◌++◌, length, Bool, true, false}
use Rattle.std.specs.Prelude.{Option, Some, None, cond, unwrap_or, nat_lt, slice_get}
use Rattle.std.specs.List.{position_or_len, list_any}
use Rattle.std.specs.Str.{bytes_eq}
use Rattle.std.proofs.Common.{refl, sym, ◌∙◌, ap, subst, arith, append_assoc}
use Rattle.std.proofs.lemmas.List.{length-append, append-nil}
use Rattle.std.proofs.lemmas.Slice.Eq.{bytes_eq-Decides}
use Rattle.gh_ast.specs.declared.Operand.{Operand}
use Rattle.gh_ast.specs.declared.Operand.TheVariants.{Null, Var}
use Rattle.gh_ast.specs.declared.Expr.{Expr}
use Rattle.gh_ast.specs.declared.Expr.TheVariants.{Plain, Read}
use Rattle.gh_ast.specs.Plain.{Cond, compare, negation, conjunction, disjunction, Conds, no_conds, cond_first}
use Rattle.gh_ast.specs.Plain.{Assertion, empty, comparison, points_to, cell, segment, star, cases, Assertions}
use Rattle.gh_ast.specs.Plain.{no_assertions, assertion_first}
use Rattle.gh_ast.specs.Programs.{Name}
use Rattle.gh_grass.proofs.Bonds.{same_name}
use Rattle.gh_path.specs.Terms.{Kind, null, value, next, same_kind, Bindings, unbound, bound, all_bound, Terms, place}
use Rattle.gh_path.specs.Terms.{added, with_value, used, used_as, term_of, followed, operand_used, operand_term}
use Rattle.gh_path.specs.Terms.{expr_used, expr_term, exprs_used, exprs_terms, cond_walked, conds_walked, walked}
use Rattle.gh_path.specs.Terms.{all_walked}
use Rattle.gh_symb.specs.Inside.{AreSuccessors}

-- each variable that has a term has one of n terms
pub record AreBound (n : ℕ) (b : Bindings) : Type 0 where
  pub at : (x : Name) (t : ℕ) → b x ≡ Some t → t < n

pub record Sound (s : Terms) : Type 0 where
  pub some : 1 ≤ length s.kinds
  pub successors : AreSuccessors (length s.kinds) (s.version + 1) s.kinds
  pub bindings : AreBound (length s.kinds) s.bindings

pub successors_more : (m n v w : ℕ) → m ≤ n → v ≤ w → (ks : List Kind) → AreSuccessors m v ks → AreSuccessors n w ks
successors_more m n v w l k [] h = tt
successors_more m n v w l k (null ∷ ks) h = successors_more m n v w l k ks h
successors_more m n v w l k (value j ∷ ks) h = successors_more m n v w l k ks h
successors_more m n v w l k (next i x ∷ ks) h =
    let of = h.0 in
    let version = h.1 in
    (omega (arith, of, l), omega (arith, version, k), successors_more m n v w l k ks h.2)

successors_append : (n v : ℕ) (ks more : List Kind) → AreSuccessors n v ks → AreSuccessors n v more
    → AreSuccessors n v (ks ++ more)
successors_append n v [] more h k = k
successors_append n v (null ∷ ks) more h k = successors_append n v ks more h k
successors_append n v (value m ∷ ks) more h k = successors_append n v ks more h k
successors_append n v (next i x ∷ ks) more h k = (h.0, h.1, successors_append n v ks more h.2 k)

pub successor_at : (n v : ℕ) (ks : List Kind) → AreSuccessors n v ks → (t i x : ℕ) → slice_get ks t ≡ Some (next i x)
    → (x < n) × (i < v)
successor_at n v [] h t i x e = absurd cc
successor_at n v (null ∷ ks) h zero i x e = absurd cc
successor_at n v (null ∷ ks) h (suc t) i x e = successor_at n v ks h t i x e
successor_at n v (value m ∷ ks) h zero i x e = absurd cc
successor_at n v (value m ∷ ks) h (suc t) i x e = successor_at n v ks h t i x e
successor_at n v (next j y ∷ ks) h zero i x e =
    let same : y ≡ x = cc in
    let same_version : j ≡ i = cc in
    let of = h.0 in
    let version = h.1 in
    (omega (arith, of, same), omega (arith, version, same_version))
successor_at n v (next j y ∷ ks) h (suc t) i x e = successor_at n v ks h.2 t i x e

pub bound_more : (m n : ℕ) (b : Bindings) → m ≤ n → AreBound m b → AreBound n b
bound_more m n b l h = record { at = λ x t e. let k = h.at x t e in omega (arith, k) }

pub bound_one : (n : ℕ) (b : Bindings) (x : Name) (t : ℕ) → AreBound n b → t < n → AreBound n (bound b x t)
bound_one n b x t h l = record { at = λ y v e. by_name (bytes_eq y x) y v e }
  where
    by_name : (c : Bool) (y : Name) (v : ℕ) → cond c (Some t) (b y) ≡ Some v → v < n
    by_name true y v e = let same : t ≡ v = cc in omega (arith, same)
    by_name false y v e = h.at y v e

pub nothing_bound : (n : ℕ) → AreBound n unbound
nothing_bound n = record { at = λ x t e. absurd cc }

-- each of some terms is one of n
abbrev pub AreBelow : ℕ → List ℕ → Type 0
AreBelow n [] = Unit {0}
AreBelow n (t ∷ ts) = (t < n) × AreBelow n ts

pub all_bound_in : (n : ℕ) (b : Bindings) (xs : List Name) (ts : List ℕ) → AreBound n b → AreBelow n ts
    → AreBound n (all_bound b xs ts)
all_bound_in n b [] ts h k = h
all_bound_in n b (x ∷ xs) [] h k = h
all_bound_in n b (x ∷ xs) (t ∷ ts) h k = all_bound_in n (bound b x t) xs ts (bound_one n b x t h k.0) k.1

pub value_sound : (v : ℕ) (ks : List Kind) → AreSuccessors (length ks) v ks
    → AreSuccessors (length (with_value ks)) v (with_value ks)
value_sound v ks h =
    let l : length ks ≤ length (with_value ks) = rw (length-append ks) (omega arith) in
    let same : v ≤ v = omega arith in
    successors_append (length (with_value ks)) v ks _
    (successors_more (length ks) (length (with_value ks)) v v l same ks h) tt

pub value_size : (ks : List Kind) → length (with_value ks) ≡ length ks + 1
value_size ks = length-append ks _

-- a walk adds terms, and what has one keeps it
pub record Extends (s t : Terms) : Type 0 where
  pub version : t.version ≡ s.version
  pub more : List Kind
  pub kinds : t.kinds ≡ s.kinds ++ more
  pub bindings : (x : Name) (v : ℕ) → s.bindings x ≡ Some v → t.bindings x ≡ Some v
  pub sound : Sound s → Sound t

pub extends_same : (s : Terms) → Extends s s
extends_same s = record {
  version = refl;
  more = [];
  kinds = sym (append-nil s.kinds);
  bindings = λ x v e. e;
  sound = λ h. h;
}

pub extends_onto : {s t u : Terms} → Extends s t → Extends t u → Extends s u
extends_onto {s} {t} {u} f g = record {
  version = g.version ∙ f.version;
  more = f.more ++ g.more;
  kinds = g.kinds ∙ ap (λ ks. ks ++ g.more) f.kinds ∙ append_assoc s.kinds f.more g.more;
  bindings = λ x v e. g.bindings x v (f.bindings x v e);
  sound = λ h. g.sound (f.sound h);
}

pub extends_size : (s t : Terms) → Extends s t → length s.kinds ≤ length t.kinds
extends_size s t f = let e = ap length f.kinds ∙ length-append s.kinds f.more in omega (arith, e)

-- a variable's term is one of those that are listed
pub term_there : (x : Name) (s : Terms) → Sound s → term_of x s < length s.kinds
term_there x s h = by_binding (s.bindings x) (λ t e. h.bindings.at x t e)
  where
    by_binding : (o : Option ℕ) → ((t : ℕ) → o ≡ Some t → t < length s.kinds) → unwrap_or o 0 < length s.kinds
    by_binding None k = let some = h.some in omega (arith, some)
    by_binding (Some t) k = k t refl

other_binding : (b : Bindings) (x y : Name) (t v : ℕ) → b x ≡ None → b y ≡ Some v → (c : Bool) → bytes_eq y x ≡ c
    → cond c (Some t) (b y) ≡ Some v
other_binding b x y t v none e true same = let is : y ≡ x = (bytes_eq-Decides y x).0 same in absurd (cc (ap b is))
other_binding b x y t v none e false differs = e

pub used_extends : (x : Name) (s : Terms) → Extends s (used x s)
used_extends x s = by_binding (s.bindings x) refl
  where
    by_binding : (o : Option ℕ) → s.bindings x ≡ o → Extends s (used_as x o s)
    by_binding (Some t) e = extends_same s
    by_binding None none = record {
      version = refl;
      more = _;
      kinds = refl;
      bindings = λ y v e. other_binding s.bindings x y (length s.kinds) v none e (bytes_eq y x) refl;
      sound = λ h. let size = value_size s.kinds in record {
        some = omega (arith, size);
        successors = value_sound (s.version + 1) s.kinds h.successors;
        bindings =
            bound_one (length (with_value s.kinds)) s.bindings x (length s.kinds)
            (bound_more (length s.kinds) (length (with_value s.kinds)) s.bindings (omega (arith, size)) h.bindings)
            (omega (arith, size));
      };
    }

-- what is used has a term
pub used_has : (x : Name) (s : Terms) → (v : ℕ) × ((used x s).bindings x ≡ Some v)
used_has x s = by_binding (s.bindings x) refl
  where
    by_binding : (o : Option ℕ) → s.bindings x ≡ o → (v : ℕ) × ((used_as x o s).bindings x ≡ Some v)
    by_binding (Some t) e = (t, e)
    by_binding None e = (length s.kinds, rw (same_name x x refl) refl)

added_more : (k : Kind) (ks : List Kind) → (more : List Kind) × (added k ks ≡ ks ++ more)
added_more k ks = by_test (list_any (same_kind k) ks)
  where
    by_test : (b : Bool) → (more : List Kind) × (cond b ks (ks ++ k ∷ []) ≡ ks ++ more)
    by_test true = ([], sym (append-nil ks))
    by_test false = (k ∷ [], refl)

added_sound : (i x v : ℕ) (ks : List Kind) → x < length ks → i < v → AreSuccessors (length ks) v ks
    → AreSuccessors (length (added (next i x) ks)) v (added (next i x) ks)
added_sound i x v ks l m h = by_test (list_any (same_kind (next i x)) ks)
  where
    by_test : (b : Bool) → AreSuccessors (length (cond b ks (ks ++ next i x ∷ []))) v (cond b ks (ks ++ next i x ∷ []))
    by_test true = h
    by_test false =
        let size : length (ks ++ next i x ∷ []) ≡ length ks + 1 = length-append ks _ in
        let same : v ≤ v = omega arith in
        successors_append (length (ks ++ next i x ∷ [])) v ks (next i x ∷ [])
        (successors_more (length ks) (length (ks ++ next i x ∷ [])) v v (omega (arith, size)) same ks h)
        (omega (arith, size, l), m, tt)

pub followed_extends : (x : Name) (s : Terms) → Extends s (followed x s)
followed_extends x s =
    let k = next s.version (term_of x s) in
    let a = added_more k s.kinds in
    let size = ap length a.1 ∙ length-append s.kinds a.0 in
    record {
      version = refl;
      more = a.0;
      kinds = a.1;
      bindings = λ y v e. e;
      sound = λ h. let some = h.some in record {
        some = omega (arith, size, some);
        successors =
            added_sound s.version (term_of x s) (s.version + 1) s.kinds (term_there x s h) (omega arith) h.successors;
        bindings = bound_more (length s.kinds) (length (added k s.kinds)) s.bindings (omega (arith, size)) h.bindings;
      };
    }

any_either : (b c d : Bool) → (c ≡ true → d ≡ true) → b || c ≡ true → b || d ≡ true
any_either true c d h e = refl
any_either false c d h e = h e

any_append : (p : Kind → Bool) (ks more : List Kind) → list_any p ks ≡ true → list_any p (ks ++ more) ≡ true
any_append p [] more e = absurd cc
any_append p (k ∷ ks) more e = any_either (p k) (list_any p ks) (list_any p (ks ++ more)) (any_append p ks more) e

same_self : (i x : ℕ) → same_kind (next i x) (next i x) ≡ true
same_self i x = grind arith

either_true : (b c : Bool) → c ≡ true → b || c ≡ true
either_true true c e = refl
either_true false c e = e

any_last : (p : Kind → Bool) (ks : List Kind) (k : Kind) → p k ≡ true → list_any p (ks ++ k ∷ []) ≡ true
any_last p [] k e = rw e refl
any_last p (j ∷ ks) k e = either_true (p j) (list_any p (ks ++ k ∷ [])) (any_last p ks k e)

added_has : (i x : ℕ) (ks : List Kind) → list_any (same_kind (next i x)) (added (next i x) ks) ≡ true
added_has i x ks = by_test (list_any (same_kind (next i x)) ks) refl
  where
    by_test : (b : Bool) → list_any (same_kind (next i x)) ks ≡ b
        → list_any (same_kind (next i x)) (cond b ks (ks ++ next i x ∷ [])) ≡ true
    by_test true e = e
    by_test false e = any_last (same_kind (next i x)) ks (next i x) (same_self i x)

first_place : (p : Kind → Bool) (k : Kind) (ks : List Kind) → (list_any p ks ≡ true → position_or_len p ks < length ks)
    → (b : Bool) → p k ≡ b → b || list_any p ks ≡ true → position_or_len p (k ∷ ks) < suc (length ks)
first_place p k ks h true is f = rw is (omega arith)
first_place p k ks h false is f = let l = h f in rw is (omega (arith, l))

any_place : (p : Kind → Bool) (ks : List Kind) → list_any p ks ≡ true → position_or_len p ks < length ks
any_place p [] e = absurd cc
any_place p (k ∷ ks) e = first_place p k ks (any_place p ks) (p k) refl e

place_there : (k : Kind) (ks : List Kind) → list_any (same_kind k) ks ≡ true → place k ks < length ks
place_there k ks e =
    let l = any_place (same_kind k) ks e in
    let t : nat_lt (position_or_len (same_kind k) ks) (length ks) ≡ true = grind (arith, l) in
    rw t l

pub operand_extends : (o : Operand) (s : Terms) → Extends s (operand_used o s)
operand_extends (Null p) s = extends_same s
operand_extends (Var o) s = used_extends o.name s

pub expr_extends : (e : Expr) (s : Terms) → Extends s (expr_used e s)
expr_extends (Plain o) s = operand_extends o s
expr_extends (Read o) s = extends_onto (used_extends o.name s) (followed_extends o.name (used o.name s))

pub exprs_extend : (es : List Expr) (s : Terms) → Extends s (exprs_used es s)
exprs_extend [] s = extends_same s
exprs_extend (e ∷ es) s = extends_onto (expr_extends e s) (exprs_extend es (expr_used e s))

operand_there : (o : Operand) (t : Terms) → Sound t → operand_term o t < length t.kinds
operand_there (Null p) t h = let some = h.some in omega (arith, some)
operand_there (Var o) t h = term_there o.name t h

-- the term of an expression that was used before
pub expr_there : (e : Expr) (s t : Terms) → Extends (expr_used e s) t → Sound t → expr_term e t < length t.kinds
expr_there (Plain o) s t f h = operand_there o t h
expr_there (Read o) s t f h =
    let u = used o.name s in
    let has = used_has o.name s in
    let before : term_of o.name u ≡ has.0 = ap (λ (b : Option ℕ). unwrap_or b 0) has.1 in
    let later : term_of o.name t ≡ has.0 = ap (λ (b : Option ℕ). unwrap_or b 0) (f.bindings o.name has.0 has.1) in
    let listed =
    any_append (same_kind (next u.version (term_of o.name u))) (followed o.name u).kinds f.more
    (added_has u.version (term_of o.name u) u.kinds) in
    let moved =
    subst (λ (ks : List Kind). list_any (same_kind (next u.version (term_of o.name u))) ks ≡ true) (sym f.kinds)
    listed in
    let at_term =
    subst (λ (v : ℕ). list_any (same_kind (next u.version v)) t.kinds ≡ true) (before ∙ sym later) moved in
    let at_version =
    subst (λ (i : ℕ). list_any (same_kind (next i (term_of o.name t))) t.kinds ≡ true) (sym f.version) at_term in
    place_there (next t.version (term_of o.name t)) t.kinds at_version

pub exprs_there : (es : List Expr) (s t : Terms) → Extends (exprs_used es s) t → Sound t
    → AreBelow (length t.kinds) (exprs_terms es t)
exprs_there [] s t f h = tt
exprs_there (e ∷ es) s t f h =
    (expr_there e s t (extends_onto (exprs_extend es (expr_used e s)) f) h, exprs_there es (expr_used e s) t f h)

mutual
  test_extends : (t : Cond) (s : Terms) → Extends s (cond_walked t s)
  test_extends (compare l e r) s = extends_onto (expr_extends l s) (expr_extends r (expr_used l s))
  test_extends (negation t) s = test_extends t s
  test_extends (conjunction ts) s = tests_extend ts s
  test_extends (disjunction ts) s = tests_extend ts s

  tests_extend : (ts : Conds) (s : Terms) → Extends s (conds_walked ts s)
  tests_extend no_conds s = extends_same s
  tests_extend (cond_first t ts) s = extends_onto (test_extends t s) (tests_extend ts (cond_walked t s))

mutual
  pub walked_extends : (f : Assertion) (s : Terms) → Extends s (walked f s)
  walked_extends empty s = extends_same s
  walked_extends (comparison l e r) s = extends_onto (operand_extends l s) (operand_extends r (operand_used l s))
  walked_extends (points_to x y) s =
      extends_onto (used_extends x.name s)
      (extends_onto (followed_extends x.name (used x.name s)) (operand_extends y (followed x.name (used x.name s))))
  walked_extends (cell x) s = extends_onto (used_extends x.name s) (followed_extends x.name (used x.name s))
  walked_extends (segment x y) s = extends_onto (operand_extends x s) (operand_extends y (operand_used x s))
  walked_extends (star fs) s = all_extend fs s
  walked_extends (cases t f g) s =
      extends_onto (test_extends t s)
      (extends_onto (walked_extends f (cond_walked t s)) (walked_extends g (walked f (cond_walked t s))))

  all_extend : (fs : Assertions) (s : Terms) → Extends s (all_walked fs s)
  all_extend no_assertions s = extends_same s
  all_extend (assertion_first f fs) s = extends_onto (walked_extends f s) (all_extend fs (walked f s))
