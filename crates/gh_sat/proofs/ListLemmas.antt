-- Elements of a list by place.
use Rattle.std.proofs.Common.{◌≡◌, ℕ, zero, suc, ◌+◌, ◌<◌, ◌≤◌, List, [], ◌∷◌, length, drop, get_or, Option, Some, None}
use Rattle.std.proofs.Common.{Bool, refl, sym, ap, ◌∙◌, arith}
use Rattle.std.specs.Prelude.{slice_get, slice_set}
use Rattle.gh_sat.specs.Trail.{end_of, unassigned}

pub end_of_at : (ss : List ℕ) (level n s : ℕ) → slice_get ss level ≡ Some s → end_of ss level n ≡ s
end_of_at [] level n s e = cc
end_of_at (x ∷ ss) zero n s e = cc
end_of_at (x ∷ ss) (suc level) n s e = end_of_at ss level n s e

pub end_of_past : (ss : List ℕ) (level n : ℕ) → length ss ≤ level → end_of ss level n ≡ n
end_of_past [] level n h = refl
end_of_past (x ∷ ss) zero n h = absurd (omega arith)
end_of_past (x ∷ ss) (suc level) n h = end_of_past ss level n (omega arith)

pub fewer_left : (values : List (Option Bool)) (a : ℕ) (b : Bool) → slice_get values a ≡ Some None
    → unassigned (slice_set values a (Some b)) + 1 ≡ unassigned values
fewer_left [] a b e = cc
fewer_left (None ∷ vs) zero b e = omega arith
fewer_left (Some v ∷ vs) zero b e = cc
fewer_left (None ∷ vs) (suc a) b e = omega (arith, fewer_left vs a b e)
fewer_left (Some v ∷ vs) (suc a) b e = fewer_left vs a b e

pub more_left : (values : List (Option Bool)) (a : ℕ) (b : Bool) → slice_get values a ≡ Some (Some b)
    → unassigned (slice_set values a None) ≡ unassigned values + 1
more_left [] a b e = cc
more_left (Some v ∷ vs) zero b e = omega arith
more_left (None ∷ vs) zero b e = cc
more_left (None ∷ vs) (suc a) b e = omega (arith, more_left vs a b e)
more_left (Some v ∷ vs) (suc a) b e = more_left vs a b e

pub some_left : (values : List (Option Bool)) (a : ℕ) → slice_get values a ≡ Some None → 0 < unassigned values
some_left [] a e = cc
some_left (None ∷ vs) a e = omega arith
some_left (Some v ∷ vs) zero e = cc
some_left (Some v ∷ vs) (suc a) e = some_left vs a e

-- orders along equations, over plain numbers
pub le_along : {a b c d : ℕ} → a ≡ b → c ≡ d → a ≤ c → b ≤ d
le_along e f h = omega arith

pub lt_along : {a b c d : ℕ} → a ≡ b → c ≡ d → a < c → b < d
lt_along e f h = omega arith

pub lt_le : {a b c : ℕ} → a < b → b ≤ c → a < c
lt_le h k = omega arith

pub le_le : {a b c : ℕ} → a ≤ b → b ≤ c → a ≤ c
le_le h k = omega arith

pub le_lt : {a b c : ℕ} → a ≤ b → b < c → a < c
le_lt h k = omega arith

pub one_less : {a b : ℕ} → a + 1 ≤ b → a < b
one_less h = omega arith

pub le_same : (a : ℕ) → a ≤ a
le_same a = omega arith

pub zero_le : (a : ℕ) → 0 ≤ a
zero_le a = omega arith

-- the front of what is left
pub drop_at : {X : Type 0} (xs : List X) (j : ℕ) (d : X) → j < length xs → drop j xs ≡ get_or xs j d ∷ drop (j + 1) xs
drop_at [] j d h = absurd (omega arith)
drop_at (x ∷ xs) zero d h = let e : 0 + 1 ≡ suc 0 = omega arith in ap (λ n. x ∷ drop n (x ∷ xs)) (sym e)
drop_at (x ∷ xs) (suc j) d h =
    let e : suc j + 1 ≡ suc (j + 1) = omega arith in
    drop_at xs j d (omega arith) ∙ ap (λ n. get_or xs j d ∷ drop n (x ∷ xs)) (sym e)

pub drop_past : {X : Type 0} (xs : List X) (j : ℕ) → length xs ≤ j → drop j xs ≡ []
drop_past [] zero h = refl
drop_past [] (suc j) h = refl
drop_past (x ∷ xs) zero h = absurd (omega arith)
drop_past (x ∷ xs) (suc j) h = drop_past xs j (omega arith)
