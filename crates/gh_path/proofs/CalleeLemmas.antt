-- The number of the first procedure of a name.
use Rattle.std.specs.Prelude.{◌≡◌, ℕ, ◌+◌, ◌<◌, ◌≤◌, List, ◌∷◌, map, length, get_or, drop, true, false, not, cond, Some}
use Rattle.std.specs.Prelude.{None, nat_lt, position, unwrap_or}
use Rattle.std.specs.List.{position_or_len}
use Rattle.std.specs.Str.{bytes_eq}
use Rattle.std.proofs.Common.{◌∙◌, ap, inl, inr, arith}
use Rattle.std.proofs.lemmas.Bool.{cases_Bool, lt-ltb, le-ltb}
use Rattle.std.proofs.lemmas.List.Sums.{prefix_len-le-length}
use Rattle.std.proofs.lemmas.Slice.Eq.{bytes_eq-Decides}
use Rattle.gh_base.proofs.ListLemmas.{over_or}
use Rattle.gh_ast.specs.declared.Procedure as whole
use Rattle.gh_ast.specs.Plain.{Procedure, procedure_of}
use Rattle.gh_ast.specs.Programs.{Name, name_of}
use Rattle.gh_path.proofs.ListLemmas.{next}

-- among some procedures
abbrev pub number_in : List Procedure → Name → ℕ
number_in ps f = unwrap_or (position (λ p. bytes_eq (name_of p) f) ps) (length ps)

at_place : (k n : ℕ) → k ≤ n → unwrap_or (cond (nat_lt k n) (Some k) None) n ≡ k
at_place k n low = elim (over_or k n) [
  | inl less ↦ let is : nat_lt k n ≡ true = lt-ltb k n less in ap (λ b. unwrap_or (cond b (Some k) None) n) is
  | inr past ↦
      let is : nat_lt k n ≡ false = le-ltb k n past in
      let same : n ≡ k = omega (arith, low, past) in
      ap (λ b. unwrap_or (cond b (Some k) None) n) is ∙ same
]

number_is : (ps : List Procedure) (f : Name) → number_in ps f ≡ position_or_len (λ p. bytes_eq (name_of p) f) ps
number_is ps f =
    at_place (position_or_len (λ p. bytes_eq (name_of p) f) ps) (length ps)
    (prefix_len-le-length (λ p. not (bytes_eq (name_of p) f)) ps)

pub number_here : (p : Procedure) (ps : List Procedure) (f : Name) → name_of p ≡ f → number_in (p ∷ ps) f ≡ 0
number_here p ps f named =
    let is : bytes_eq (name_of p) f ≡ true = (bytes_eq-Decides (name_of p) f).1 named in
    number_is (p ∷ ps) f ∙ ap (λ b. cond (not b) (1 + position_or_len (λ p. bytes_eq (name_of p) f) ps) 0) is

pub number_later : (p : Procedure) (ps : List Procedure) (f : Name) → (name_of p ≡ f → ⊥)
    → number_in (p ∷ ps) f ≡ number_in ps f + 1
number_later p ps f other = elim (cases_Bool (bytes_eq (name_of p) f)) [
  | inl is ↦ absurd (other ((bytes_eq-Decides (name_of p) f).0 is))
  | inr is ↦
      let more : number_in (p ∷ ps) f ≡ 1 + position_or_len (λ p. bytes_eq (name_of p) f) ps =
      number_is (p ∷ ps) f ∙ ap (λ b. cond (not b) (1 + position_or_len (λ p. bytes_eq (name_of p) f) ps) 0) is in
      omega (arith, more, number_is ps f)
]

-- the same of what is left of the procedures as they are read
abbrev pub AsFar : List whole.Procedure → Name → ℕ → Type 0
AsFar ps f k = number_in (map procedure_of ps) f ≡ k + number_in (map procedure_of (drop k ps)) f

pub number_at : (ps : List whole.Procedure) (f : Name) (k : ℕ) (r : whole.Procedure) → k < length ps → r ≡ get_or ps k r
    → AsFar ps f k → r.name.name ≡ f → k ≡ number_in (map procedure_of ps) f
number_at ps f k r within is far named =
    let none : number_in (map procedure_of (drop k ps)) f ≡ 0 =
    ap (λ (qs : List whole.Procedure). number_in (map procedure_of qs) f) (next ps k r within is)
    ∙ number_here (procedure_of r) (map procedure_of (drop (k + 1) ps)) f named in
    omega (arith, far, none)

pub number_past : (ps : List whole.Procedure) (f : Name) (k : ℕ) (r : whole.Procedure) → k < length ps
    → r ≡ get_or ps k r → AsFar ps f k → (r.name.name ≡ f → ⊥) → AsFar ps f (k + 1)
number_past ps f k r within is far other =
    let more : number_in (map procedure_of (drop k ps)) f ≡ number_in (map procedure_of (drop (k + 1) ps)) f + 1 =
    ap (λ (qs : List whole.Procedure). number_in (map procedure_of qs) f) (next ps k r within is)
    ∙ number_later (procedure_of r) (map procedure_of (drop (k + 1) ps)) f other in
    omega (arith, far, more)
