-- Where an expression has no value, values aren't given.
use Rattle.std.specs.Prelude.{◌≡◌, ℕ, zero, suc, ◌<◌, List, [], ◌∷◌, length, get_or, Some, None}
use Rattle.std.proofs.Common.{refl, ◌∙◌, ap, arith}
use Rattle.gh_ast.specs.declared.Expr.{Expr}
use Rattle.gh_assert.specs.Heaps.{Heap}
use Rattle.gh_assert.specs.Meaning.{Store}
use Rattle.gh_assert.specs.Values.{result, Give, HasUnread}

pub not_given : (s : Store) (h : Heap) (es : List Expr) (vs : List ℕ) → HasUnread s h es → Give s h es vs → ⊥
not_given s h [] vs any give = absurd (omega (arith, any.2))
not_given s h (e ∷ es) [] any give = absurd cc
not_given s h (e ∷ es) (v ∷ vs) (i, x, within, is, none) give =
    by_place (λ k l same. not_given s h es vs (k, x, l, same, none) others) i within is
  where
    first : result s h e ≡ Some v
    first = cc

    others : Give s h es vs
    others = cc

    by_place : ((k : ℕ) → k < length es → get_or es k x ≡ x → ⊥) → (i : ℕ) → i < suc (length es)
        → get_or (e ∷ es) i x ≡ x → ⊥
    by_place later zero within is = let none' : result s h e ≡ None = ap (result s h) is ∙ none in absurd cc
    by_place later (suc i) within is = later i (omega (arith, within)) is

pub unread_first : (s : Store) (h : Heap) (e : Expr) (es : List Expr) → result s h e ≡ None → HasUnread s h (e ∷ es)
unread_first s h e es none = (0, e, omega (arith), refl, none)

pub unread_later : (s : Store) (h : Heap) (e : Expr) (es : List Expr) → HasUnread s h es → HasUnread s h (e ∷ es)
unread_later s h e es (i, x, within, is, none) = (suc i, x, omega (arith, within), is, none)
