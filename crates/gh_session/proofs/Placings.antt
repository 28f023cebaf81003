-- A piece that is put in its place.
use Rattle.std.specs.Prelude.{◌≡◌, ℕ, suc, ◌+◌, List, [], ◌∷◌, ◌++◌, map, set, take, Some, None, cond, Bool, true}
use Rattle.std.specs.Prelude.{false}
use Rattle.std.specs.List.{concat, position, position_from}
use Rattle.std.specs.Str.{bytes_eq}
use Rattle.std.proofs.Common.{Bor, refl, sym, ◌∙◌, ap, arith}
use Rattle.std.proofs.lemmas.List.{map-append, map-set}
use Rattle.std.proofs.lemmas.Iterator.Adapters.{position_from-zero}
use Rattle.gh_session.specs.declared.edits.Edit.{Edit}
use Rattle.gh_session.specs.Pieces.{value_of, placed, standing, whole}

abbrev has_name_of : Edit → Bor Edit → Bool
has_name_of p q = bytes_eq q.now.name p.name

replaced_from : (p : Edit) (qs : List (Bor Edit)) (k i : ℕ) → position_from (has_name_of p) k qs ≡ Some i
    → (j : ℕ) × (i ≡ k + j) × (placed (map value_of qs) p ≡ set (map value_of qs) j p)
replaced_from p [] k i e = absurd cc
replaced_from p (q ∷ qs) k i e = by_name (λ f. replaced_from p qs (k + 1) i f) (has_name_of p q) refl
  where
    by_name : (position_from (has_name_of p) (k + 1) qs ≡ Some i
        → (j : ℕ) × (i ≡ k + 1 + j) × (placed (map value_of qs) p ≡ set (map value_of qs) j p)) → (b : Bool)
        → has_name_of p q ≡ b → (j : ℕ) × (i ≡ k + j)
        × (placed (map value_of (q ∷ qs)) p ≡ set (map value_of (q ∷ qs)) j p)
    by_name more true is =
        let same : Some k ≡ Some i =
        sym (ap (λ b. cond b (Some k) (position_from (has_name_of p) (k + 1) qs)) is) ∙ e in
        let here : k ≡ i = cc in
        (0, omega (arith, here), ap (λ b. cond b (p ∷ map value_of qs) (q.now ∷ placed (map value_of qs) p)) is)
    by_name more false is =
        let (j, at, rest) = more (sym (ap (λ b. cond b (Some k) (position_from (has_name_of p) (k + 1) qs)) is) ∙ e) in (
          suc j,
          omega (arith, at),
          ap (λ b. cond b (p ∷ map value_of qs) (q.now ∷ placed (map value_of qs) p)) is ∙ ap (λ xs. q.now ∷ xs) rest,
        )

last_from : (p : Edit) (qs : List (Bor Edit)) (k : ℕ) → position_from (has_name_of p) k qs ≡ None
    → placed (map value_of qs) p ≡ map value_of qs ++ p ∷ []
last_from p [] k e = refl
last_from p (q ∷ qs) k e = by_name (λ f. last_from p qs (k + 1) f) (has_name_of p q) refl
  where
    by_name : (position_from (has_name_of p) (k + 1) qs ≡ None → placed (map value_of qs) p ≡ map value_of qs ++ p ∷ [])
        → (b : Bool) → has_name_of p q ≡ b → placed (map value_of (q ∷ qs)) p ≡ map value_of (q ∷ qs) ++ p ∷ []
    by_name more true is =
        let same : Some k ≡ None = sym (ap (λ b. cond b (Some k) (position_from (has_name_of p) (k + 1) qs)) is) ∙ e in
        absurd cc
    by_name more false is =
        ap (λ b. cond b (p ∷ map value_of qs) (q.now ∷ placed (map value_of qs) p)) is
        ∙ ap (λ xs. q.now ∷ xs) (more
        (sym (ap (λ b. cond b (Some k) (position_from (has_name_of p) (k + 1) qs)) is) ∙ e))

pub placed_there : (p : Bor Edit) (qs : List (Bor Edit)) (i : ℕ) → position (has_name_of p.now) qs ≡ Some i
    → map value_of (set qs i p) ≡ placed (map value_of qs) p.now
placed_there p qs i e =
    let (j, at, is) = replaced_from p.now qs 0 i (sym (position_from-zero (has_name_of p.now) qs) ∙ e) in
    let same : i ≡ j = omega (arith, at) in
    map-set value_of qs i p ∙ ap (λ m. set (map value_of qs) m p.now) same ∙ sym is

pub placed_last : (p : Bor Edit) (qs : List (Bor Edit)) → position (has_name_of p.now) qs ≡ None
    → map value_of (qs ++ p ∷ []) ≡ placed (map value_of qs) p.now
placed_last p qs e =
    map-append value_of qs (p ∷ []) ∙ sym (last_from p.now qs 0 (sym (position_from-zero (has_name_of p.now) qs) ∙ e))

texts_are : (qs : List (Bor Edit))
    → map (λ (q : Bor Edit). q.now.text) qs ≡ map (λ (e : Edit). e.text) (map value_of qs)
texts_are [] = refl
texts_are (q ∷ qs) = ap (λ xs. q.now.text ∷ xs) (texts_are qs)

-- before any piece is added the head stands there
pub opened : (head text start bytes : List ℕ) (shown held : List (Bor Edit)) (es given : List Edit) (upto : ℕ)
    → text ≡ start ++ bytes → start ≡ [] → bytes ≡ head → shown ≡ held → map value_of held ≡ standing (take upto given)
    → given ≡ es →
    text ++ concat (map (λ (q : Bor Edit). q.now.text) shown) ≡ whole head (take upto es)
opened head text start bytes shown held es given upto is none first same stand all =
    let front : text ≡ head = is ∙ (λ i. none i ++ first i) in
    let texts : map (λ (q : Bor Edit). q.now.text) shown ≡ map (λ (e : Edit). e.text) (standing (take upto es)) =
    ap (map (λ (q : Bor Edit). q.now.text)) same ∙ texts_are held
    ∙ ap (map (λ (e : Edit). e.text)) (stand ∙ ap (λ xs. standing (take upto xs)) all) in
    λ i. front i ++ concat (texts i)
