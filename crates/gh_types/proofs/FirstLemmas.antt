-- The first of errors, part by part.
use Rattle.std.proofs.Common.{◌≡◌, ℕ, zero, suc, ◌+◌, ◌<◌, ◌≤◌, ◌⊎◌, inl, inr, List, [], ◌∷◌, ◌++◌, length, take}
use Rattle.std.proofs.Common.{get_or, refl, sym, ◌∙◌, ap, subst, arith, map, append_assoc, append-nil, add-one, Bool}
use Rattle.std.proofs.Common.{false}
use Rattle.std.proofs.lemmas.List.{take_all, take_more}
use Rattle.std.specs.Prelude.{Any, Option, None, Some, is_some}
use Rattle.std.specs.List.{flat_map}
use Rattle.std.specs.Option.{option_map}
use Rattle.gh_base.specs.declared.place.Span.{Span}
use Rattle.gh_ast.specs.declared.Occ.{Occ}
use Rattle.gh_ast.specs.declared.Cond.{Cond}
use Rattle.gh_ast.specs.declared.Assertion.{Assertion}
use Rattle.gh_ast.specs.declared.Stmt.{Stmt}
use Rattle.gh_ast.specs.declared.Body.{Body}
use Rattle.gh_ast.specs.declared.Procedure as whole
use Rattle.gh_ast.specs.Plain.{cond_of, conds_view, assertion_of, assertions_view, statement_of, statements_view}
use Rattle.gh_ast.specs.Plain.{Procedure, procedure_of, body_of}
use Rattle.gh_ast.specs.Occurrences.{in_cond, in_conds, in_assertion, in_assertions, in_alternatives, sites_in}
use Rattle.gh_ast.specs.Occurrences.{all_sites_in}
use Rattle.gh_ast.specs.Rules.{NoBody, RepeatedAt, HasName, GoesFirst, Before}
use Rattle.gh_types.specs.declared.fault.Fault.{Fault}
use Rattle.gh_types.specs.Checks.{ParameterErrors, TargetErrors}
use Rattle.gh_types.specs.Faults.{IsFirstOf, IsFirstIn, IsEarlier}

-- some member of a list: cases
pub any_none : {X : Type 0} (P : X → Type 0) → Any P [] → ⊥
any_none P (k, x, h, e, holds) = omega arith

pub any_here : {X : Type 0} (P : X → Type 0) (x : X) (xs : List X) → P x → Any P (x ∷ xs)
any_here P x xs holds = (0, x, omega arith, refl, holds)

pub any_later : {X : Type 0} (P : X → Type 0) (x : X) (xs : List X) → Any P xs → Any P (x ∷ xs)
any_later P x xs (k, y, h, e, holds) = (suc k, y, omega arith, e, holds)

pub any_cases : {X : Type 0} (P : X → Type 0) (x : X) (xs : List X) → Any P (x ∷ xs) → P x ⊎ Any P xs
any_cases P x xs (zero, y, h, e, holds) = inl (subst P (sym e) holds)
any_cases P x xs (suc k, y, h, e, holds) = inr (k, y, omega arith, e, holds)

pub any_left : {X : Type 0} (P : X → Type 0) (xs ys : List X) → Any P xs → Any P (xs ++ ys)
any_left P [] ys a = absurd (any_none P a)
any_left P (x ∷ xs) ys a =
    elim (any_cases P x xs a)
    [ inl holds ↦ any_here P x (xs ++ ys) holds | inr b ↦ any_later P x (xs ++ ys) (any_left P xs ys b) ]

pub any_right : {X : Type 0} (P : X → Type 0) (xs ys : List X) → Any P ys → Any P (xs ++ ys)
any_right P [] ys a = a
any_right P (x ∷ xs) ys a = any_later P x (xs ++ ys) (any_right P xs ys a)

pub any_parts : {X : Type 0} (P : X → Type 0) (xs ys : List X) → Any P (xs ++ ys) → Any P xs ⊎ Any P ys
any_parts P [] ys a = inr a
any_parts P (x ∷ xs) ys a =
    elim (any_cases P x (xs ++ ys) a) [
      | inl holds ↦ inl (any_here P x xs holds)
      | inr b ↦ elim (any_parts P xs ys b) [ inl c ↦ inl (any_later P x xs c) | inr c ↦ inr c ]
    ]

pub any_weaker : {X : Type 0} (P Q : X → Type 0) → ((x : X) → P x → Q x) → (xs : List X) → Any P xs → Any Q xs
any_weaker P Q f xs (k, x, h, e, holds) = (k, x, h, e, f x holds)

pub any_map : {X Y : Type 0} (P : Y → Type 0) (f : X → Y) (xs : List X) → Any P (map f xs) → Any (λ x. P (f x)) xs
any_map P f [] a = absurd (any_none P a)
any_map P f (x ∷ xs) a =
    elim (any_cases P (f x) (map f xs) a) [
      | inl holds ↦ any_here (λ z. P (f z)) x xs holds
      | inr b ↦ any_later (λ z. P (f z)) x xs (any_map P f xs b)
    ]

pub any_mapped : {X Y : Type 0} (P : Y → Type 0) (f : X → Y) (xs : List X) → Any (λ x. P (f x)) xs → Any P (map f xs)
any_mapped P f [] a = absurd (any_none (λ x. P (f x)) a)
any_mapped P f (x ∷ xs) a =
    elim (any_cases (λ z. P (f z)) x xs a) [
      | inl holds ↦ any_here P (f x) (map f xs) holds
      | inr b ↦ any_later P (f x) (map f xs) (any_mapped P f xs b)
    ]

-- the order of errors
pub before_trans : (s t u : Span) → Before s t → Before t u → Before s u
before_trans s t u (inl a) (inl b) = inl (omega arith)
before_trans s t u (inl a) (inr (e, b)) = inl (omega arith)
before_trans s t u (inr (e, a)) (inl b) = inl (omega arith)
before_trans s t u (inr (e, a)) (inr (f, b)) = inr (omega arith, omega arith)

pub goes_trans : (k : ℕ) (s : Span) (m : ℕ) (t : Span) (n : ℕ) (u : Span) → GoesFirst k s m t → GoesFirst m t n u
    → GoesFirst k s n u
goes_trans k s m t n u (inl a) (inl b) = inl (before_trans s t u a b)
goes_trans k s m t n u (inl a) (inr (e, b)) = inl (subst (λ (x : Span). Before s x) e a)
goes_trans k s m t n u (inr (e, a)) (inl b) = inl (subst (λ (x : Span). Before x u) (sym e) b)
goes_trans k s m t n u (inr (e, a)) (inr (f, b)) = inr (e ∙ f, omega arith)

-- of the same errors
pub first_same : (E F : ℕ → Span → Type 0) (found : Option Fault) → ((n : ℕ) (s : Span) → E n s → F n s)
    → ((n : ℕ) (s : Span) → F n s → E n s) → IsFirstOf E found → IsFirstOf F found
first_same E F None f g h = record { says = λ n s e. h.says n s (g n s e) }
first_same E F (Some x) f g h =
    record { says = record { here = f x.number x.span h.says.here; first = λ n s e. h.says.first n s (g n s e) } }

-- of two kinds of errors
pub first_either : (E F : ℕ → Span → Type 0) (a b r : Option Fault) → IsEarlier a b r → IsFirstOf E a → IsFirstOf F b
    → IsFirstOf (λ n s. E n s ⊎ F n s) r
first_either E F None None r i x y =
    subst (IsFirstOf _) (sym i) (record { says = λ n s e. elim e [ inl p ↦ x.says n s p | inr p ↦ y.says n s p ] })
first_either E F None (Some g) r i x y =
    subst (IsFirstOf _) (sym i)
    (record {
      says = record {
        here = inr y.says.here;
        first = λ n s e. elim e [ inl p ↦ absurd (x.says n s p) | inr p ↦ y.says.first n s p ];
      };
    })
first_either E F (Some f) None r i x y =
    subst (IsFirstOf _) (sym i)
    (record {
      says = record {
        here = inl x.says.here;
        first = λ n s e. elim e [ inl p ↦ x.says.first n s p | inr p ↦ absurd (y.says n s p) ];
      };
    })
first_either E F (Some f) (Some g) r (inl (l, i)) x y =
    subst (IsFirstOf _) (sym i)
    (record {
      says = record {
        here = inl x.says.here;
        first = λ n s e. elim e [
          | inl p ↦ x.says.first n s p
          | inr p ↦ goes_trans f.number f.span g.number g.span n s l (y.says.first n s p)
        ];
      };
    })
first_either E F (Some f) (Some g) r (inr (l, i)) x y =
    subst (IsFirstOf _) (sym i)
    (record {
      says = record {
        here = inr y.says.here;
        first = λ n s e. elim e [
          | inl p ↦ goes_trans g.number g.span f.number f.span n s l (x.says.first n s p)
          | inr p ↦ y.says.first n s p
        ];
      };
    })

-- of lists
pub first_nil : {X : Type 0} (E : X → ℕ → Span → Type 0) → IsFirstIn E [] None
first_nil E = record { says = record { says = λ n s a. any_none (λ x. E x n s) a } }

pub first_one : {X : Type 0} (E : X → ℕ → Span → Type 0) (x : X) (r : Option Fault) → IsFirstOf (E x) r
    → IsFirstIn E (x ∷ []) r
first_one E x r h =
    record {
      says = first_same (E x) _ r
          (λ n s e. any_here (λ z. E z n s) x [] e)
          (λ n s a. elim (any_cases (λ z. E z n s) x [] a) [ inl e ↦ e | inr b ↦ absurd (any_none (λ z. E z n s) b) ])
          h;
    }

pub first_append : {X : Type 0} (E : X → ℕ → Span → Type 0) (xs ys : List X) (a b r : Option Fault) → IsEarlier a b r
    → IsFirstIn E xs a → IsFirstIn E ys b → IsFirstIn E (xs ++ ys) r
first_append E xs ys a b r i x y =
    record {
      says = first_same _ _ r
          (λ n s e. elim e [ inl p ↦ any_left (λ z. E z n s) xs ys p | inr p ↦ any_right (λ z. E z n s) xs ys p ])
          (λ n s p. any_parts (λ z. E z n s) xs ys p)
          (first_either _ _ a b r i x.says y.says);
    }

pub first_cons : {X : Type 0} (E : X → ℕ → Span → Type 0) (x : X) (ys : List X) (a b r : Option Fault) → IsEarlier a b r
    → IsFirstOf (E x) a → IsFirstIn E ys b → IsFirstIn E (x ∷ ys) r
first_cons E x ys a b r i h y = first_append E (x ∷ []) ys a b r i (first_one E x a h) y

pub first_map : {X Y : Type 0} (E : Y → ℕ → Span → Type 0) (f : X → Y) (xs : List X) (r : Option Fault)
    → IsFirstIn (λ x. E (f x)) xs r → IsFirstIn E (map f xs) r
first_map E f xs r h =
    record {
      says = first_same _ _ r
          (λ n s e. any_mapped (λ z. E z n s) f xs e)
          (λ n s p. any_map (λ z. E z n s) f xs p)
          h.says;
    }

pub first_list : {X : Type 0} (E : X → ℕ → Span → Type 0) (xs ys : List X) (r : Option Fault) → xs ≡ ys
    → IsFirstIn E ys r → IsFirstIn E xs r
first_list E xs ys r e h = rw e h

-- one member more
turn_suc : {X Y : Type 0} (f : X → List Y) (xs : List X) (k : ℕ) (x : X) → k < length xs → x ≡ get_or xs k x
    → flat_map f (take (suc k) xs) ≡ flat_map f (take k xs) ++ f x
turn_suc f [] k x h e = absurd (omega arith)
turn_suc f (y ∷ xs) zero x h e = rw e (append-nil (f y))
turn_suc f (y ∷ xs) (suc k) x h e =
    rw (turn_suc f xs k x (omega arith) e) (sym (append_assoc (f y) (flat_map f (take k xs)) (f x)))

pub turn : {X Y : Type 0} (f : X → List Y) (xs : List X) (k : ℕ) (x : X) → k < length xs → x ≡ get_or xs k x
    → flat_map f (take (k + 1) xs) ≡ flat_map f (take k xs) ++ f x
turn f xs k x h e = rw (add-one k) (turn_suc f xs k x h e)

-- one turn of a walk over a list
pub first_more : {X Y : Type 0} (E : Y → ℕ → Span → Type 0) (f : X → List Y) (xs : List X) (k : ℕ) (x : X)
    (a b r : Option Fault)
    → k < length xs → x ≡ get_or xs k x → IsEarlier a b r → IsFirstIn E (flat_map f (take k xs)) a → IsFirstIn E (f x) b
    → IsFirstIn E (flat_map f (take (k + 1) xs)) r
first_more E f xs k x a b r h e i p q = first_list E _ _ r (turn f xs k x h e) (first_append E _ _ a b r i p q)

pub first_all : {X Y : Type 0} (E : Y → ℕ → Span → Type 0) (f : X → List Y) (xs : List X) (k : ℕ) (r : Option Fault)
    → length xs ≤ k → IsFirstIn E (flat_map f (take k xs)) r → IsFirstIn E (flat_map f xs) r
first_all E f xs k r h p = rw (← take_all k xs h) p

-- names of lists
pub name_left : (xs ys : List Occ) (n : List ℕ) → HasName xs n → HasName (xs ++ ys) n
name_left xs ys n a = any_left (λ o. o.name ≡ n) xs ys a

pub name_right : (xs ys : List Occ) (n : List ℕ) → HasName ys n → HasName (xs ++ ys) n
name_right xs ys n a = any_right (λ o. o.name ≡ n) xs ys a

pub name_parts : (xs ys : List Occ) (n : List ℕ) → HasName (xs ++ ys) n → HasName xs n ⊎ HasName ys n
name_parts xs ys n a = any_parts (λ o. o.name ≡ n) xs ys a

-- lists of tests, assertions and statements in their plain forms
pub in_tests_flat : (ts : List Cond) → in_conds (conds_view ts) ≡ flat_map (λ t. in_cond (cond_of t)) ts
in_tests_flat [] = refl
in_tests_flat (t ∷ ts) = ap (λ r. in_cond (cond_of t) ++ r) (in_tests_flat ts)

pub in_formulas_flat : (fs : List Assertion)
    → in_assertions (assertions_view fs) ≡ flat_map (λ f. in_assertion (assertion_of f)) fs
in_formulas_flat [] = refl
in_formulas_flat (f ∷ fs) = ap (λ r. in_assertion (assertion_of f) ++ r) (in_formulas_flat fs)

pub in_alternatives_flat : (fs : List Assertion)
    → in_alternatives (map assertion_of fs) ≡ in_assertions (assertions_view fs)
in_alternatives_flat [] = refl
in_alternatives_flat (f ∷ fs) = ap (λ r. in_assertion (assertion_of f) ++ r) (in_alternatives_flat fs)

pub all_sites_flat : (inside : Bool) (ss : List Stmt)
    → all_sites_in inside (statements_view ss) ≡ flat_map (λ s. sites_in inside (statement_of s)) ss
all_sites_flat inside [] = refl
all_sites_flat inside (s ∷ ss) = ap (λ r. sites_in inside (statement_of s) ++ r) (all_sites_flat inside ss)

-- one turn of a walk over the members themselves
pub first_next : {X : Type 0} (E : X → ℕ → Span → Type 0) (xs : List X) (k : ℕ) (x : X) (a b r : Option Fault)
    → k < length xs → x ≡ get_or xs k x → IsEarlier a b r → IsFirstIn E (take k xs) a → IsFirstOf (E x) b
    → IsFirstIn E (take (k + 1) xs) r
first_next E xs k x a b r h e i p q =
    first_list E _ (take k xs ++ x ∷ []) r (take_more xs k x h ∙ ap (λ y. take k xs ++ y ∷ []) (sym e))
    (first_append E (take k xs) (x ∷ []) a b r i p (first_one E x b q))

pub first_whole : {X : Type 0} (E : X → ℕ → Span → Type 0) (xs : List X) (k : ℕ) (r : Option Fault) → length xs ≤ k
    → IsFirstIn E (take k xs) r → IsFirstIn E xs r
first_whole E xs k r h p = rw (← take_all k xs h) p

-- a statement's one target
pub first_target : (q : Procedure) (t : Occ) (r : Option Fault) → IsFirstOf (ParameterErrors q t) r
    → IsFirstOf (TargetErrors q (t ∷ [])) r
first_target q t r h =
    first_same (ParameterErrors q t) (TargetErrors q (t ∷ [])) r
    (λ n s e. inl (any_here (λ x. ParameterErrors q x n s) t [] e))
    (λ n s e. elim e [
      | inl a ↦ elim (any_cases (λ x. ParameterErrors q x n s) t [] a)
          [ inl e ↦ e | inr b ↦ absurd (any_none (λ x. ParameterErrors q x n s) b) ]
      | inr (f, b) ↦ absurd (not_repeated s b)
    ])
    h
  where
    not_repeated : (s : Span) → RepeatedAt (t ∷ []) s → ⊥
    not_repeated s b =
        any_none (λ o. o.name ≡ b.here.name)
        (let first : b.place ≡ 0 = omega (arith, b.within) in
        subst (λ (k : ℕ). HasName (take k (t ∷ [])) b.here.name) first b.earlier)

-- a body that isn't there
pub first_no_body : (p : whole.Procedure) (there : Bool) (r : Option Fault) → there ≡ is_some p.body
    → IsFirstOf (λ n s. (there ≡ false) × (n ≡ 11) × (p.close ≡ s)) r
    → IsFirstOf (λ n s. (n ≡ 11) × NoBody (procedure_of p) s) r
first_no_body p there r e h = first_same _ _ r
    (λ n s (a, b, c). (b, (c, none p.body (sym e ∙ a))))
    (λ n s (b, (c, d)). (e ∙ some p.body d, b, c))
    h
  where
    none : (o : Option Body) → is_some o ≡ false → option_map body_of o ≡ None
    none None a = refl
    none (Some x) a = cc

    some : (o : Option Body) → option_map body_of o ≡ None → is_some o ≡ false
    some None a = refl
    some (Some x) a = cc
