-- Tests are spelled in one way at most.
use Rattle.std.proofs.Common.{◌≡◌, List, ◌∷◌, Bool, refl, sym, ap, subst}
use Rattle.gh_base.specs.declared.place.Span.{Span}
use Rattle.gh_ast.specs.declared.Expr.{Expr}
use Rattle.gh_ast.specs.declared.sign.Sign.{Sign}
use Rattle.gh_ast.specs.Tokens.{Token, sign}
use Rattle.gh_ast.specs.Plain.{compare, negation, no_conds, cond_first}
use Rattle.gh_ast.specs.Grammar.{SpellsExpr, SpellsLit, negated, bracketed, equated, distinguished, SpellsConj, one_lit}
use Rattle.gh_ast.specs.Grammar.{lits, SpellsLits, last_lit, next_lit, SpellsCond, one_conj, conjs, SpellsConjs}
use Rattle.gh_ast.specs.Grammar.{last_conj, next_conj}
use Rattle.gh_ast.specs.Readings.{AreOne, IsUnique}
use Rattle.gh_ast.proofs.OneValue.{one_expr, no_sign_expr}

-- a comparison of two expressions, by its first sign
one_comparison : (reads : Bool) (ts us vs : List Token) (l m r s : Expr) (a b : Bool) (x y : Sign) (p q : Span)
    (rest left : List Token)
    → SpellsExpr reads ts l (sign x p ∷ us) → SpellsExpr reads us r rest → SpellsExpr reads ts m (sign y q ∷ vs)
    → SpellsExpr reads vs s left
    → (x ≡ y → a ≡ b) → AreOne (compare l a r) (compare m b s) rest left
one_comparison reads ts us vs l m r s a b x y p q rest left d e f g same =
    let one = one_expr reads ts l m _ _ d f in
    let w = one.rest in
    let o : vs ≡ us = cc in
    let two = one_expr reads us r s rest left e (subst (λ z. SpellsExpr reads z s left) o g) in
    let u = one.value in let v = two.value in
    let t : a ≡ b = same cc in
    record { value = cc; rest = two.rest }

mutual
  pub one_literal : (reads : Bool) (ts : List Token) → IsUnique (SpellsLit reads ts)
  one_literal reads _ _ _ r q (negated a) (negated b) =
      let one = one_test reads _ _ _ _ _ a b in let w = one.rest in record { value = ap negation one.value; rest = cc }
  one_literal reads _ _ _ r q (negated a) (equated b c) = absurd (no_sign_expr reads _ _ _ _ _ b)
  one_literal reads _ _ _ r q (negated a) (distinguished b c) = absurd (no_sign_expr reads _ _ _ _ _ b)
  one_literal reads _ _ _ r q (bracketed a) (bracketed b) =
      let one = one_test reads _ _ _ _ _ a b in let w = one.rest in record { value = one.value; rest = cc }
  one_literal reads _ _ _ r q (bracketed a) (equated b c) = absurd (no_sign_expr reads _ _ _ _ _ b)
  one_literal reads _ _ _ r q (bracketed a) (distinguished b c) = absurd (no_sign_expr reads _ _ _ _ _ b)
  one_literal reads _ _ _ r q (equated b c) (negated a) = absurd (no_sign_expr reads _ _ _ _ _ b)
  one_literal reads _ _ _ r q (equated b c) (bracketed a) = absurd (no_sign_expr reads _ _ _ _ _ b)
  one_literal reads ts _ _ r q (equated a b) (equated c d) =
      one_comparison reads ts _ _ _ _ _ _ _ _ _ _ _ _ r q a b c d (λ e. refl)
  one_literal reads ts _ _ r q (equated a b) (distinguished c d) =
      one_comparison reads ts _ _ _ _ _ _ _ _ _ _ _ _ r q a b c d (λ e. cc)
  one_literal reads _ _ _ r q (distinguished b c) (negated a) = absurd (no_sign_expr reads _ _ _ _ _ b)
  one_literal reads _ _ _ r q (distinguished b c) (bracketed a) = absurd (no_sign_expr reads _ _ _ _ _ b)
  one_literal reads ts _ _ r q (distinguished a b) (equated c d) =
      one_comparison reads ts _ _ _ _ _ _ _ _ _ _ _ _ r q a b c d (λ e. cc)
  one_literal reads ts _ _ r q (distinguished a b) (distinguished c d) =
      one_comparison reads ts _ _ _ _ _ _ _ _ _ _ _ _ r q a b c d (λ e. refl)

  pub one_conjunction : (reads : Bool) (ts : List Token) → IsUnique (SpellsConj reads ts)
  one_conjunction reads ts x y r q (one_lit a n) (one_lit b m) = one_literal reads ts x y r q a b
  one_conjunction reads ts x _ r q (one_lit a n) (lits {p = p} {us = us} b m) =
      let one = one_literal reads ts _ _ _ _ a b in absurd (n p us one.rest)
  one_conjunction reads ts _ y r q (lits {p = p} {us = us} a m) (one_lit b n) =
      let one = one_literal reads ts _ _ _ _ a b in absurd (n p us (sym one.rest))
  one_conjunction reads ts _ _ r q (lits {us = us} {l = l} a d) (lits {us = vs} {l = m} b e) =
      let one = one_literal reads ts _ _ _ _ a b in
      let w = one.rest in
      let o : vs ≡ us = cc in
      let two = one_literals reads us l m r q d (subst (λ z. SpellsLits reads z m q) o e) in
      let u = one.value in let v = two.value in
      record { value = cc; rest = two.rest }

  pub one_literals : (reads : Bool) (ts : List Token) → IsUnique (SpellsLits reads ts)
  one_literals reads ts _ _ r q (last_lit a n) (last_lit b m) =
      let one = one_literal reads ts _ _ r q a b in
      record { value = ap (λ t. cond_first t no_conds) one.value; rest = one.rest }
  one_literals reads ts _ _ r q (last_lit a n) (next_lit {p = p} {us = us} b m) =
      let one = one_literal reads ts _ _ _ _ a b in absurd (n p us one.rest)
  one_literals reads ts _ _ r q (next_lit {p = p} {us = us} a m) (last_lit b n) =
      let one = one_literal reads ts _ _ _ _ a b in absurd (n p us (sym one.rest))
  one_literals reads ts _ _ r q (next_lit {us = us} {l = l} a d) (next_lit {us = vs} {l = m} b e) =
      let one = one_literal reads ts _ _ _ _ a b in
      let w = one.rest in
      let o : vs ≡ us = cc in
      let two = one_literals reads us l m r q d (subst (λ z. SpellsLits reads z m q) o e) in
      let u = one.value in let v = two.value in
      record { value = cc; rest = two.rest }

  pub one_test : (reads : Bool) (ts : List Token) → IsUnique (SpellsCond reads ts)
  one_test reads ts x y r q (one_conj a n) (one_conj b m) = one_conjunction reads ts x y r q a b
  one_test reads ts x _ r q (one_conj a n) (conjs {p = p} {us = us} b m) =
      let one = one_conjunction reads ts _ _ _ _ a b in absurd (n p us one.rest)
  one_test reads ts _ y r q (conjs {p = p} {us = us} a m) (one_conj b n) =
      let one = one_conjunction reads ts _ _ _ _ a b in absurd (n p us (sym one.rest))
  one_test reads ts _ _ r q (conjs {us = us} {l = l} a d) (conjs {us = vs} {l = m} b e) =
      let one = one_conjunction reads ts _ _ _ _ a b in
      let w = one.rest in
      let o : vs ≡ us = cc in
      let two = one_conjunctions reads us l m r q d (subst (λ z. SpellsConjs reads z m q) o e) in
      let u = one.value in let v = two.value in
      record { value = cc; rest = two.rest }

  pub one_conjunctions : (reads : Bool) (ts : List Token) → IsUnique (SpellsConjs reads ts)
  one_conjunctions reads ts _ _ r q (last_conj a n) (last_conj b m) =
      let one = one_conjunction reads ts _ _ r q a b in
      record { value = ap (λ t. cond_first t no_conds) one.value; rest = one.rest }
  one_conjunctions reads ts _ _ r q (last_conj a n) (next_conj {p = p} {us = us} b m) =
      let one = one_conjunction reads ts _ _ _ _ a b in absurd (n p us one.rest)
  one_conjunctions reads ts _ _ r q (next_conj {p = p} {us = us} a m) (last_conj b n) =
      let one = one_conjunction reads ts _ _ _ _ a b in absurd (n p us (sym one.rest))
  one_conjunctions reads ts _ _ r q (next_conj {us = us} {l = l} a d) (next_conj {us = vs} {l = m} b e) =
      let one = one_conjunction reads ts _ _ _ _ a b in
      let w = one.rest in
      let o : vs ≡ us = cc in
      let two = one_conjunctions reads us l m r q d (subst (λ z. SpellsConjs reads z m q) o e) in
      let u = one.value in let v = two.value in
      record { value = cc; rest = two.rest }
