-- A list of tokens has at most one statement at its front, and at most one rest.
use Rattle.std.proofs.Common.{◌≡◌, List, [], ◌∷◌, true, refl, ap, subst, sym}
use Rattle.gh_base.specs.declared.place.Span.{Span}
use Rattle.gh_ast.specs.declared.Occ.{Occ}
use Rattle.gh_ast.specs.declared.Expr.{Expr}
use Rattle.gh_ast.specs.declared.sign.Sign.{Sign}
use Rattle.gh_ast.specs.declared.sign.Sign.TheVariants as sg
use Rattle.gh_ast.specs.declared.sign.Keyword.TheVariants as kw
use Rattle.gh_ast.specs.Plain.{Statement, Statements, set, write, call, return}
use Rattle.gh_ast.specs.Readings.{AreOne}
use Rattle.gh_ast.specs.Tokens.{Token, named, key, sign}
use Rattle.gh_ast.specs.Grammar.{SpellsExpr, plain, SpellsValues, SpellsClause, SpellsTargets, last_target, next_target}
use Rattle.gh_ast.specs.Grammar.{SpellsStatement, a_set, a_new, a_write, a_free, bare_call, a_call, an_if, an_if_else}
use Rattle.gh_ast.specs.Grammar.{a_while, a_return, SpellsBlock, a_block, SpellsStatements, no_more, one_more}
use Rattle.gh_ast.proofs.OneValue.{one_expr, one_values}
use Rattle.gh_ast.proofs.OneTest.{one_test}
use Rattle.gh_ast.proofs.OneAssertion.{one_clause}

pub record AreOneBlock (a b : Statements) (c d : Span) (r q : List Token) : Type 0 where
  pub value : a ≡ b
  pub close : c ≡ d
  pub rest : r ≡ q

pub one_targets : (ts r q : List Token) (xs ys : List Occ) → SpellsTargets ts xs r → SpellsTargets ts ys q
    → AreOne xs ys r q
one_targets _ r q xs ys last_target last_target = record { value = refl; rest = refl }
one_targets _ r q xs ys (next_target {o = o} {ts = ts} {l = l} a) (next_target {l = m} b) =
    let e = one_targets ts r q l m a b in record { value = ap (λ x. o ∷ x) e.value; rest = e.rest }

-- the rest of equal tokens after the first
pub tail_one : {t u : Token} {r q : List Token} → t ∷ r ≡ u ∷ q → r ≡ q
tail_one e = cc

-- what follows `:=` in a call is no value
pub no_call_value : (f : Occ) (p q : Span) (ts rest : List Token) (e : Expr)
    → SpellsExpr true (named f ∷ sign sg.ParenOpen p ∷ ts) e (sign sg.Semicolon q ∷ rest) → ⊥
no_call_value f p q ts rest e (plain a n) = elim a [ ]

-- no statement begins with a sign
pub no_sign_first : {s : Sign} {p : Span} {ts rest : List Token} {x : Statement}
    → SpellsStatement (sign s p ∷ ts) x rest → ⊥
no_sign_first (a_call t v) = elim t [ ]

-- no statements begin with a declaration
pub no_var_first : {p : Span} {ts rest : List Token} {x : Statements} {c : Span}
    → SpellsStatements (key kw.Var p ∷ ts) x c rest → ⊥
no_var_first (one_more (a_call t v) a) = elim t [ ]

mutual
  pub one_statement : (ts r q : List Token) (x y : Statement) → SpellsStatement ts x r → SpellsStatement ts y q
      → AreOne x y r q
  one_statement _ r q x y (a_set {o = o} {q = p} {ts = ts} {e = e} a) (a_set {q = p2} {e = f} b) =
      let w = one_expr true ts e f (sign sg.Semicolon p ∷ r) (sign sg.Semicolon p2 ∷ q) a b in
      record { value = ap (λ v. set o v) w.value; rest = tail_one w.rest }
  one_statement _ r q x y a_new a_new = record { value = refl; rest = refl }
  one_statement _ r q x y (a_write {o = o} {s = p} {ts = ts} {e = e} a) (a_write {s = p2} {e = f} b) =
      let w = one_expr true ts e f (sign sg.Semicolon p ∷ r) (sign sg.Semicolon p2 ∷ q) a b in
      record { value = ap (λ v. write o v) w.value; rest = tail_one w.rest }
  one_statement _ r q x y a_free a_free = record { value = refl; rest = refl }
  one_statement _ r q x y (bare_call {f = f} {q = p} {ts = ts} {es = e} a) (bare_call {q = p2} {es = e2} b) =
      let w = one_values sg.ParenClose ts (λ e. cc) e e2 (sign sg.Semicolon p ∷ r) (sign sg.Semicolon p2 ∷ q) a b in
      record { value = ap (λ v. call [] f v) w.value; rest = tail_one w.rest }
  one_statement _ r q x y (a_return {p = p} {ts = ts} {es = e} a) (a_return {es = f} b) =
      let w = one_values sg.Semicolon ts (λ e. cc) e f r q a b in
      record { value = ap (λ v. return p v) w.value; rest = w.rest }
  one_statement _ r q x y (an_if {r = p} {c = c} {ts = ts} {us = us} {t = t} {a = l} k a m)
      (an_if {r = p2} {c = d} {us = us2} {t = t2} {a = l2} k2 b m2) =
      let w = one_test true ts t t2 (sign sg.ParenClose p ∷ us) (sign sg.ParenClose p2 ∷ us2) k k2 in
      let v = one_block us r q l l2 c d a (subst (λ z. SpellsBlock z l2 d q) (sym (tail_one w.rest)) b) in
      let st = w.value in let sl = v.value in let sc = v.close in record { value = cc; rest = v.rest }
  one_statement _ r q x y (an_if_else {r = p} {s = o} {c = c} {d = d} {ts = ts} {us = us} {vs = vs} {t = t} {a = l}
      {b = l3} k1 a m) (an_if_else {r = p2} {s = o2} {c = c2} {d = d2} {us = us2} {vs = vs2} {t = t2} {a = l2} {b = l4}
      k2 b n) =
      let w = one_test true ts t t2 (sign sg.ParenClose p ∷ us) (sign sg.ParenClose p2 ∷ us2) k1 k2 in
      let v =
      one_block us (key kw.Else o ∷ vs) (key kw.Else o2 ∷ vs2) l l2 c c2 a
      (subst (λ z. SpellsBlock z l2 c2 (key kw.Else o2 ∷ vs2)) (sym (tail_one w.rest)) b) in
      let u = one_block vs r q l3 l4 d d2 m (subst (λ z. SpellsBlock z l4 d2 q) (sym (tail_one v.rest)) n) in
      let st = w.value in let sa = v.value in let sc = v.close in let sb = u.value in let sd = u.close in
      record { value = cc; rest = u.rest }
  one_statement _ r q x y (a_while {p = p0} {r = p} {c = c} {ts = ts} {us = us} {vs = vs} {t = t} {i = i} {a = l} k a m)
      (a_while {r = p2} {c = d} {us = us2} {vs = vs2} {t = t2} {i = i2} {a = l2} k2 b n) =
      let w = one_test true ts t t2 (sign sg.ParenClose p ∷ us) (sign sg.ParenClose p2 ∷ us2) k k2 in
      let v =
      one_clause kw.Invariant us i i2 vs vs2 a
      (subst (λ z. SpellsClause kw.Invariant z i2 vs2) (sym (tail_one w.rest)) b) in
      let u = one_block vs r q l l2 c d m (subst (λ z. SpellsBlock z l2 d q) (sym v.rest) n) in
      let st = w.value in let si = v.value in let sl = u.value in let sc = u.close in
      record { value = cc; rest = u.rest }
  one_statement ts r q x y (a_call {f = f} {p = p} {q = o} {us = us} {xs = xs} {es = es} a v)
      (a_call {f = callee} {p = p2} {q = o2} {us = us2} {xs = xs2} {es = es2} b w) =
      let t =
      one_targets ts (named f ∷ sign sg.ParenOpen p ∷ us) (named callee ∷ sign sg.ParenOpen p2 ∷ us2) xs xs2 a b in
      let m : us2 ≡ us = let e = t.rest in cc in
      let z =
      one_values sg.ParenClose us (λ e. cc) es es2 (sign sg.Semicolon o ∷ r) (sign sg.Semicolon o2 ∷ q) v
      (subst (λ k. SpellsValues sg.ParenClose k es2 (sign sg.Semicolon o2 ∷ q)) m w) in
      let e1 = t.value in let e2 = t.rest in let e3 = z.value in record { value = cc; rest = tail_one z.rest }
  one_statement _ r q x y (a_set {o = o} {p = p} {q = s} {ts = ts} {e = e} a) (a_call (last_target {rest = us}) v) =
      absurd (no_call_value _ _ _ _ _ _ a)
  one_statement _ r q x y (a_call last_target v) (a_set a) = absurd (no_call_value _ _ _ _ _ _ a)
  one_statement _ r q x y (a_set (plain a n)) a_new = elim a [ ]
  one_statement _ r q x y a_new (a_set (plain a n)) = elim a [ ]
  one_statement _ r q x y a_new (a_call t v) = elim t [ ]
  one_statement _ r q x y (a_call t v) a_new = elim t [ ]
  one_statement _ r q x y (a_write a) (a_call t v) = elim t [ ]
  one_statement _ r q x y (a_call t v) (a_write a) = elim t [ ]
  one_statement _ r q x y a_free (a_call t v) = elim t [ ]
  one_statement _ r q x y (a_call t v) a_free = elim t [ ]
  one_statement _ r q x y (bare_call a) (a_call t v) = elim t [ ]
  one_statement _ r q x y (a_call t v) (bare_call a) = elim t [ ]
  one_statement _ r q x y (an_if k a m) (a_call t v) = elim t [ ]
  one_statement _ r q x y (a_call t v) (an_if k a m) = elim t [ ]
  one_statement _ r q x y (an_if_else k a m) (a_call t v) = elim t [ ]
  one_statement _ r q x y (a_call t v) (an_if_else k a m) = elim t [ ]
  one_statement _ r q x y (a_while k a m) (a_call t v) = elim t [ ]
  one_statement _ r q x y (a_call t v) (a_while k a m) = elim t [ ]
  one_statement _ r q x y (a_return a) (a_call t v) = elim t [ ]
  one_statement _ r q x y (a_call t v) (a_return a) = elim t [ ]
  one_statement _ r q x y (an_if {r = p} {c = c} {ts = ts} {us = us} {t = t} {a = l} k a m)
      (an_if_else {r = p2} {s = o2} {c = d} {us = us2} {vs = vs2} {t = t2} {a = l2} k2 b n) =
      let w = one_test true ts t t2 (sign sg.ParenClose p ∷ us) (sign sg.ParenClose p2 ∷ us2) k k2 in
      let v =
      one_block us r (key kw.Else o2 ∷ vs2) l l2 c d a
      (subst (λ z. SpellsBlock z l2 d (key kw.Else o2 ∷ vs2)) (sym (tail_one w.rest)) b) in
      absurd (m o2 vs2 v.rest)
  one_statement _ r q x y (an_if_else {r = p} {s = o} {c = c} {ts = ts} {us = us} {vs = vs} {t = t} {a = l} k a m)
      (an_if {r = p2} {c = d} {us = us2} {t = t2} {a = l2} k2 b n) =
      let w = one_test true ts t t2 (sign sg.ParenClose p ∷ us) (sign sg.ParenClose p2 ∷ us2) k k2 in
      let v =
      one_block us (key kw.Else o ∷ vs) q l l2 c d a
      (subst (λ z. SpellsBlock z l2 d q) (sym (tail_one w.rest)) b) in
      absurd (n o vs (sym v.rest))

  pub one_block : (ts r q : List Token) (x y : Statements) (c d : Span) → SpellsBlock ts x c r → SpellsBlock ts y d q
      → AreOneBlock x y c d r q
  one_block _ r q x y c d (a_block {ts = ts} a) (a_block b) = one_statements ts r q x y c d a b

  pub one_statements : (ts r q : List Token) (x y : Statements) (c d : Span) → SpellsStatements ts x c r
      → SpellsStatements ts y d q → AreOneBlock x y c d r q
  one_statements _ r q x y c d no_more no_more = record { value = refl; close = refl; rest = refl }
  one_statements ts r q x y c d (one_more {us = us} {s = s} {a = l} i a) (one_more {us = us2} {s = s2} {a = l2} j b) =
      let w = one_statement ts us us2 s s2 i j in
      let v = one_statements us r q l l2 c d a (subst (λ z. SpellsStatements z l2 d q) (sym w.rest) b) in
      let st = w.value in let sl = v.value in record { value = cc; close = v.close; rest = v.rest }
  one_statements _ r q x y c d no_more (one_more j b) = absurd (no_sign_first j)
  one_statements _ r q x y c d (one_more i a) no_more = absurd (no_sign_first i)
