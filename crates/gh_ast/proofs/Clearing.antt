-- A text without comments, piece by piece.
use Rattle.std.proofs.Common.{◌≡◌, ◌≢◌, ℕ, suc, ◌+◌, List, [], ◌∷◌, ◌++◌, length, Bool, true, false, ◌&&◌, nat_eq, not}
use Rattle.std.proofs.Common.{cond, All, refl, sym, ◌∙◌, ap, arith}
use Rattle.std.specs.List.{list_all}
use Rattle.std.proofs.lemmas.Bool.{and_parts, and_from, not-true, not_from_false, eqb-false, ne_eqb}
use Rattle.std.proofs.lemmas.List.Elements.{All-head, All-tail}
use Rattle.gh_base.specs.declared.place.Span.{Span}
use Rattle.gh_ast.specs.Tokens.{cleared, wiped, is_ahead, moved, moved_over}

mutual
  pub length-cleared : (text : List ℕ) → length (cleared text) ≡ length text
  length-cleared [] = refl
  length-cleared (b ∷ rest) =
      elim ((nat_eq b 47) && is_ahead 47 rest) as
      (λ v. length (cond v (32 ∷ wiped rest) (b ∷ cleared rest)) ≡ suc (length rest))
      [ true ↦ ap suc (length-wiped rest) | false ↦ ap suc (length-cleared rest) ]

  pub length-wiped : (text : List ℕ) → length (wiped text) ≡ length text
  length-wiped [] = refl
  length-wiped (b ∷ rest) =
      elim (nat_eq b 10) as (λ v. length (cond v (b ∷ cleared rest) (32 ∷ wiped rest)) ≡ suc (length rest))
      [ true ↦ ap suc (length-cleared rest) | false ↦ ap suc (length-wiped rest) ]

-- a byte that isn't `/` stays
pub cleared_byte : (b : ℕ) (rest : List ℕ) → nat_eq b 47 ≡ false → cleared (b ∷ rest) ≡ b ∷ cleared rest
cleared_byte b rest h = rw h refl

pub cleared_slash : (rest : List ℕ) → is_ahead 47 rest ≡ false → cleared (47 ∷ rest) ≡ 47 ∷ cleared rest
cleared_slash rest h = rw h refl

-- a byte of the cleared text that isn't a space stands in the text
pub uncleared : (c : ℕ) (text more : List ℕ) → c ≢ 32 → cleared text ≡ c ∷ more
    → (rest : List ℕ) × (text ≡ c ∷ rest) × (more ≡ cleared rest)
uncleared c [] more h e = cc
uncleared c (b ∷ rest) more h e =
    let P : Bool → Type 0 =
    λ v. cond v (32 ∷ wiped rest) (b ∷ cleared rest) ≡ c ∷ more
    → (rest' : List ℕ) × (b ∷ rest ≡ c ∷ rest') × (more ≡ cleared rest') in
    let go : (v : Bool) → P v = λ v. elim v as P [ true ↦ λ q. absurd (h cc) | false ↦ λ q. (rest, cc, cc) ] in
    go ((nat_eq b 47) && is_ahead 47 rest) e

-- bytes that no comment makes and with which none begins, and that end no line
abbrev pub is_plain : ℕ → Bool
is_plain b = not (nat_eq b 47) && (not (nat_eq b 32) && not (nat_eq b 10))

pub record IsPlain (w : List ℕ) : Type 0 where
  pub test : list_all is_plain w ≡ true

plain_parts : (b : ℕ) → is_plain b ≡ true → (nat_eq b 47 ≡ false) × (b ≢ 32) × (b ≢ 10)
plain_parts b h =
    let p = and_parts (not (nat_eq b 47)) (not (nat_eq b 32) && not (nat_eq b 10)) h in
    let q = and_parts (not (nat_eq b 32)) (not (nat_eq b 10)) p.1 in (
      not-true (nat_eq b 47) p.0,
      eqb-false b 32 (not-true (nat_eq b 32) q.0),
      eqb-false b 10 (not-true (nat_eq b 10) q.1),
    )

pub plain_byte : (b : ℕ) → b ≢ 47 → b ≢ 32 → b ≢ 10 → is_plain b ≡ true
plain_byte b p q r =
    and_from (not (nat_eq b 47)) (not (nat_eq b 32) && not (nat_eq b 10)) (not_from_false (nat_eq b 47) (ne_eqb b 47 p))
    (and_from (not (nat_eq b 32)) (not (nat_eq b 10)) (not_from_false (nat_eq b 32) (ne_eqb b 32 q))
    (not_from_false (nat_eq b 10) (ne_eqb b 10 r)))

pub cleared_front : (w rest : List ℕ) → IsPlain w → cleared (w ++ rest) ≡ w ++ cleared rest
cleared_front [] rest h = refl
cleared_front (b ∷ w) rest h =
    let p = and_parts (is_plain b) (list_all is_plain w) h.test in
    cleared_byte b (w ++ rest) (plain_parts b p.0).0 ∙ ap (λ t. b ∷ t) (cleared_front w rest (record { test = p.1 }))

pub uncleared_front : (w text more : List ℕ) → IsPlain w → cleared text ≡ w ++ more
    → (rest : List ℕ) × (text ≡ w ++ rest) × (more ≡ cleared rest)
uncleared_front [] text more h e = (text, refl, sym e)
uncleared_front (b ∷ w) text more h e =
    let p = and_parts (is_plain b) (list_all is_plain w) h.test in
    let u = uncleared b text (w ++ more) (plain_parts b p.0).1 e in
    let v = uncleared_front w u.0 more (record { test = p.1 }) (sym u.2) in
    (v.0, u.1 ∙ ap (λ t. b ∷ t) v.1, v.2)

-- in a line a place goes to the right
pub moved_right : (w : List ℕ) (p : Span) → All (λ b. b ≢ 10) w
    → moved_over p w ≡ record { line = p.line; col = p.col + length w }
moved_right [] p h = let e : p.col + 0 ≡ p.col = omega arith in rw e refl
moved_right (b ∷ w) p h =
    let here : nat_eq b 10 ≡ false = ne_eqb b 10 (All-head (λ b. b ≢ 10) b w h) in
    let step : moved p b ≡ record { line = p.line; col = p.col + 1 } = rw here refl in
    let e : p.col + 1 + length w ≡ p.col + suc (length w) = omega arith in
    ap (λ q. moved_over q w) step
    ∙ moved_right w (record { line = p.line; col = p.col + 1 }) (All-tail (λ b. b ≢ 10) b w h)
    ∙ ap (λ c. record { line = p.line; col = c }) e
