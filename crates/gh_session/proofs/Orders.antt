-- Two places of one list: they are one, or one comes after the other.
use Rattle.std.proofs.Common.{◌≡◌, List, [], ◌∷◌, ◌++◌, refl, sym, ap, ◌∙◌}

-- before one place stand b and at it x, before the other c and at it y
pub data IsOrder {X : Type 0} (b c : List X) (x y : X) : Type 0 where
  one_place : b ≡ c → x ≡ y → IsOrder b c x y
  left_first : (d : List X) → c ≡ b ++ x ∷ d → IsOrder b c x y
  right_first : (d : List X) → b ≡ c ++ y ∷ d → IsOrder b c x y

ordered_on : {X : Type 0} {b c : List X} {x y : X} (k l : X) → k ≡ l → IsOrder b c x y → IsOrder (k ∷ b) (l ∷ c) x y
ordered_on {c = c} k l e (one_place f g) = one_place (ap (λ z. k ∷ z) f ∙ ap (λ z. z ∷ c) e) g
ordered_on {b = b} {x = x} k l e (left_first d f) =
    left_first d (ap (λ z. l ∷ z) f ∙ ap (λ z. z ∷ (b ++ x ∷ d)) (sym e))
ordered_on {c = c} {y = y} k l e (right_first d f) = right_first d (ap (λ z. k ∷ z) f ∙ ap (λ z. z ∷ (c ++ y ∷ d)) e)

pub ordered : {X : Type 0} (b c after rest : List X) (x y : X) → b ++ x ∷ after ≡ c ++ y ∷ rest → IsOrder b c x y
ordered [] [] after rest x y e = one_place refl cc
ordered [] (l ∷ c) after rest x y e = let p : l ≡ x = cc in left_first c (ap (λ z. z ∷ c) p)
ordered (k ∷ b) [] after rest x y e = let p : k ≡ y = cc in right_first b (ap (λ z. z ∷ b) p)
ordered (k ∷ b) (l ∷ c) after rest x y e =
    let p : k ≡ l = cc in
    let f : b ++ x ∷ after ≡ c ++ y ∷ rest = cc in
    ordered_on k l p (ordered b c after rest x y f)
