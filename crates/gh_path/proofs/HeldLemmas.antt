-- The steps that a walk holds, each with the origin that it comes from.
use Rattle.std.specs.Prelude.{◌≡◌, ◌⊎◌, ℕ, zero, suc, ◌+◌, ◌<◌, ◌≤◌, List, [], ◌∷◌, ◌++◌, map, length, take, get_or}
use Rattle.std.specs.Prelude.{slice_set, slice_get, Some}
use Rattle.std.proofs.Common.{refl, sym, ◌∙◌, ap, subst, inl, inr, arith}
use Rattle.std.proofs.lemmas.List.{take_all, take_more, take_more_set, take-map, map-append, map_more, length_push}
use Rattle.std.proofs.lemmas.List.{length-take-le, length-map}
use Rattle.std.proofs.lemmas.Option.{slice_get_within, get_or_from_slice_get}
use Rattle.gh_path.specs.Graphs.{PathStep}
use Rattle.gh_path.specs.Kept.{step_of}
use Rattle.gh_path.specs.Shown.{AreHeld, KeepsStep, step_shown, step_from, steps_from}
use Rattle.gh_path.specs.declared.condition.PathStep as kept
use Rattle.gh_path.specs.declared.node.Node.{Node}
use Rattle.gh_path.specs.declared.node.Origin.{Origin}
use Rattle.gh_path.specs.declared.route.Taken.{Taken}

-- the step of an origin
abbrev of_origin : List Node → Origin → PathStep
of_origin ns o = step_shown (step_from ns o)

held_length : (ns : List Node) (os : List Origin) (rs : List kept.PathStep) → AreHeld ns os rs → length os ≡ length rs
held_length ns os rs held =
    let same : length (map step_of rs) ≡ length (steps_from ns os) = ap length held in
    sym (length-map os (of_origin ns)) ∙ sym same ∙ length-map rs step_of

map_set : {A B : Type 0} (f : A → B) (xs : List A) (i : ℕ) (y : A)
    → map f (slice_set xs i y) ≡ slice_set (map f xs) i (f y)
map_set f [] i y = refl
map_set f (x ∷ xs) zero y = refl
map_set f (x ∷ xs) (suc i) y = ap (λ ys. f x ∷ ys) (map_set f xs i y)

held_set : (ns : List Node) (os : List Origin) (rs : List kept.PathStep) (i : ℕ) (o : Origin) (r : kept.PathStep)
    → KeepsStep (step_from ns o) r → AreHeld ns os rs →
    AreHeld ns (slice_set os i o) (slice_set rs i r)
held_set ns os rs i o r keeps held =
    map_set step_of rs i r ∙ ap (λ xs. slice_set xs i (step_of r)) held ∙ ap (slice_set (steps_from ns os) i) keeps
    ∙ sym (map_set (of_origin ns) os i o)

held_push : (ns : List Node) (os : List Origin) (rs : List kept.PathStep) (o : Origin) (r : kept.PathStep)
    → KeepsStep (step_from ns o) r → AreHeld ns os rs → AreHeld ns (os ++ o ∷ []) (rs ++ r ∷ [])
held_push ns os rs o r keeps held =
    map-append step_of rs (r ∷ []) ∙ ap (λ xs. xs ++ step_of r ∷ []) held ∙ ap (λ x. steps_from ns os ++ x ∷ []) keeps
    ∙ sym (map-append (of_origin ns) os (o ∷ []))

pub held_take : (ns : List Node) (os : List Origin) (rs : List kept.PathStep) (n : ℕ) → AreHeld ns os rs
    → AreHeld ns (take n os) (take n rs)
held_take ns os rs n held = sym (take-map step_of n rs) ∙ ap (take n) held ∙ take-map (of_origin ns) n os

-- a list in which an item is put at a place
abbrev pub IsPut : {A : Type 0} → List A → ℕ → A → List A → Type 0
IsPut xs i y ys = (i < length xs → ys ≡ slice_set xs i y) × (length xs ≤ i → ys ≡ xs ++ y ∷ [])

within_or : (i n : ℕ) → (i < n) ⊎ (n ≤ i)
within_or i n = grind arith

pub put_there : {A : Type 0} (xs ys : List A) (i : ℕ) (y : A) → IsPut xs i y ys → i ≤ length xs
    → take (i + 1) ys ≡ take i xs ++ y ∷ []
put_there xs ys i y put low = elim (within_or i (length xs)) [
  | inl less ↦ ap (take (i + 1)) (put.0 less) ∙ take_more_set xs i y less
  | inr past ↦
      ap (take (i + 1)) (put.1 past) ∙ take_all (i + 1) (xs ++ y ∷ []) (omega (arith, length_push xs y, past))
      ∙ ap (λ zs. zs ++ y ∷ []) (sym (take_all i xs past))
]

pub same_there : {A : Type 0} (xs : List A) (i : ℕ) (x y : A) → slice_get xs i ≡ Some x → x ≡ y
    → take (i + 1) xs ≡ take i xs ++ y ∷ []
same_there xs i x y at same =
    take_more xs i x (slice_get_within xs i x at)
    ∙ ap (λ z. take i xs ++ z ∷ []) (get_or_from_slice_get xs i x x at ∙ same)

pub held_put : (ns : List Node) (os us : List Origin) (rs qs : List kept.PathStep) (i : ℕ) (o : Origin)
    (r : kept.PathStep) → KeepsStep (step_from ns o) r →
    IsPut os i o us → IsPut rs i r qs → AreHeld ns os rs → AreHeld ns us qs
held_put ns os us rs qs i o r keeps one two held = elim (within_or i (length os)) [
  | inl less ↦
      subst (λ hs. AreHeld ns hs qs) (sym (one.0 less))
      (subst (AreHeld ns (slice_set os i o)) (sym (two.0 (omega (arith, less, held_length ns os rs held))))
      (held_set ns os rs i o r keeps held))
  | inr past ↦
      subst (λ hs. AreHeld ns hs qs) (sym (one.1 past))
      (subst (AreHeld ns (os ++ o ∷ [])) (sym (two.1 (omega (arith, past, held_length ns os rs held))))
      (held_push ns os rs o r keeps held))
]

-- one step more of the way is held
pub held_low : (os : List Origin) (ts : List Taken) (i : ℕ) → i ≤ length ts
    → take i os ≡ map (λ t. t.origin) (take i ts) → i ≤ length os
held_low os ts i within same =
    let count : length (take i os) ≡ i =
    ap length same ∙ length-map (take i ts) (λ t. t.origin) ∙ length-take-le i ts within in
    low os i count
  where
    low : (os : List Origin) (i : ℕ) → length (take i os) ≡ i → i ≤ length os
    low os zero count = omega arith
    low [] (suc i) count = absurd (omega (arith, count))
    low (o ∷ os) (suc i) count = let less : length (take i os) ≡ i = omega (arith, count) in
        omega (arith, low os i less)

pub held_more : (os us : List Origin) (ts : List Taken) (i : ℕ) (t : Taken) → i < length ts
    → take i os ≡ map (λ t. t.origin) (take i ts) → t ≡ get_or ts i t →
    (i ≤ length os → take (i + 1) us ≡ take i os ++ t.origin ∷ [])
    → take (i + 1) us ≡ map (λ t. t.origin) (take (i + 1) ts)
held_more os us ts i t within same at more =
    let low : i ≤ length ts = omega (arith, within) in
    more (held_low os ts i low same) ∙ ap (λ ps. ps ++ t.origin ∷ []) same
    ∙ ap (λ (q : Taken). map (λ t. t.origin) (take i ts) ++ q.origin ∷ []) at
    ∙ sym (map_more (λ (t : Taken). t.origin) ts i t within)

-- all of it
pub held_all : (os us : List Origin) (ts : List Taken) (n i : ℕ) → n ≡ length ts → n ≤ i → i ≤ n
    → take i os ≡ map (λ t. t.origin) (take i ts) → us ≡ take n os → us ≡ map (λ t. t.origin) ts
held_all os us ts n i count past within same cut =
    let at : n ≡ i = omega (arith, past, within) in
    cut ∙ ap (λ m. take m os) at ∙ same
    ∙ ap (map (λ (t : Taken). t.origin)) (take_all i ts (omega (arith, count, past)))
