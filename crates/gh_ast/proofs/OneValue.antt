-- Operands and expressions are spelled in one way at most.
use Rattle.std.proofs.Common.{◌≡◌, ◌⊎◌, inl, inr, List, [], ◌∷◌, Bool, true, refl, ap, subst}
use Rattle.gh_base.specs.declared.place.Span.{Span}
use Rattle.gh_ast.specs.declared.Expr.{Expr}
use Rattle.gh_ast.specs.declared.Expr.TheVariants as expr
use Rattle.gh_ast.specs.declared.sign.Sign.{Sign}
use Rattle.gh_ast.specs.declared.sign.Sign.TheVariants as sg
use Rattle.gh_ast.specs.Tokens.{Token, sign}
use Rattle.gh_ast.specs.Grammar.{SpellsOperand, null_operand, variable, SpellsExpr, plain, read, SpellsExprs, last_expr}
use Rattle.gh_ast.specs.Grammar.{next_expr, SpellsValues, no_values, some_values}
use Rattle.gh_ast.specs.Readings.{IsUnique}

pub one_operand : (ts : List Token) → IsUnique (SpellsOperand ts)
one_operand _ x y r q null_operand null_operand = record { value = refl; rest = refl }
one_operand _ x y r q variable variable = record { value = refl; rest = refl }

pub one_expr : (reads : Bool) (ts : List Token) → IsUnique (SpellsExpr reads ts)
one_expr _ _ x y r q (plain a n) (plain b m) =
    let e = one_operand _ _ _ _ _ a b in record { value = ap expr.Plain e.value; rest = e.rest }
one_expr _ _ x y r q (plain variable n) read = absurd (n _ _ refl)
one_expr _ _ x y r q read (plain variable n) = absurd (n _ _ refl)
one_expr _ _ x y r q read read = record { value = refl; rest = refl }

-- no expression begins with a sign
pub no_sign_expr : (reads : Bool) (s : Sign) (p : Span) (ts : List Token) (e : Expr) (rest : List Token)
    → SpellsExpr reads (sign s p ∷ ts) e rest → ⊥
no_sign_expr reads s p ts _ rest (plain a n) = elim a [ ]

pub no_sign_exprs : (close s : Sign) (p : Span) (ts : List Token) (es : List Expr) (rest : List Token)
    → SpellsExprs close (sign s p ∷ ts) es rest → ⊥
no_sign_exprs close s p ts _ rest (last_expr a) = no_sign_expr true s p ts _ _ a
no_sign_exprs close s p ts _ rest (next_expr a b) = no_sign_expr true s p ts _ _ a

pub one_exprs : (close : Sign) (ts : List Token) → (close ≡ sg.Comma → ⊥) → IsUnique (SpellsExprs close ts)
one_exprs close ts c _ _ r q (last_expr a) (last_expr b) =
    let e = one_expr true ts _ _ _ _ a b in let v = e.value in let t = e.rest in record { value = cc; rest = cc }
one_exprs close ts c _ _ r q (last_expr a) (next_expr b _) =
    let e = one_expr true ts _ _ _ _ a b in let t = e.rest in absurd (c cc)
one_exprs close ts c _ _ r q (next_expr a _) (last_expr b) =
    let e = one_expr true ts _ _ _ _ a b in let t = e.rest in absurd (c cc)
one_exprs close ts c _ _ r q (next_expr {us = us} {es = es} a s) (next_expr {us = vs} {es = fs} b t) =
    let e = one_expr true ts _ _ _ _ a b in
    let w = e.rest in
    let m : vs ≡ us = cc in
    let f = one_exprs close us c es fs r q s (subst (λ x. SpellsExprs close x fs q) m t) in
    let v = e.value in let l = f.value in
    record { value = cc; rest = f.rest }

-- none, or some
pub record IsNone (close : Sign) (ts : List Token) (es : List Expr) (rest : List Token) : Type 0 where
  pub place : Span
  pub tokens : ts ≡ sign close place ∷ rest
  pub empty : es ≡ []

pub values_cases : (close : Sign) (ts : List Token) (es : List Expr) (rest : List Token) → SpellsValues close ts es rest
    → IsNone close ts es rest ⊎ SpellsExprs close ts es rest
values_cases close _ _ rest (no_values {p = p}) = inl (record { place = p; tokens = refl; empty = refl })
values_cases close ts es rest (some_values a) = inr a

none_or_some : (close : Sign) (ts : List Token) (x y : List Expr) (r q : List Token) → IsNone close ts x r
    → SpellsExprs close ts y q → ⊥
none_or_some close ts x y r q a b =
    no_sign_exprs close close a.place r y q (subst (λ us. SpellsExprs close us y q) a.tokens b)

pub one_values : (close : Sign) (ts : List Token) → (close ≡ sg.Comma → ⊥) → IsUnique (SpellsValues close ts)
one_values close ts c x y r q s t =
    elim (values_cases close ts x r s) [
      | inl a ↦
          elim (values_cases close ts y q t) [
            | inl b ↦ (let e = a.tokens in let f = b.tokens in let g = a.empty in let h = b.empty in
                record { value = cc; rest = cc })
            | inr b ↦ absurd (none_or_some close ts x y r q a b)
          ]
      | inr a ↦
          elim (values_cases close ts y q t) [
            | inl b ↦ absurd (none_or_some close ts y x q r b a)
            | inr b ↦ one_exprs close ts c x y r q a b
          ]
    ]
