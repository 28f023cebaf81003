-- The first procedure that has a way with a property.
use Rattle.std.specs.Prelude.{◌≡◌, ℕ, zero, suc, ◌+◌, ◌-◌, ◌<◌, List, [], ◌∷◌, map, length, get_or, slice_get, Some}
use Rattle.std.specs.Prelude.{Any, Contains}
use Rattle.std.specs.Option.{option_map}
use Rattle.std.proofs.Common.{refl, sym, ◌∙◌, ap, subst, inl, inr, arith}
use Rattle.std.proofs.lemmas.List.{length-map}
use Rattle.std.proofs.lemmas.Option.{slice_get_read, slice_get-map, slice_get_within, get_or_from_slice_get}
use Rattle.gh_base.proofs.ListLemmas.{over_or, at_front, at_back}
use Rattle.gh_ast.specs.Lists.{IsFirstWith}
use Rattle.gh_ast.specs.Plain.{Procedure, Program}
use Rattle.gh_ast.proofs.Lists.{member_cases, no_member, one_value}
use Rattle.gh_path.specs.Graphs.{Start}
use Rattle.gh_path.specs.Paths.{Way}
use Rattle.gh_path.specs.Conditions.{Course, courses_of, Condition, condition, from_procedures, IsOf}

-- a procedure has a way with the property
abbrev pub HasSome : Program → (Procedure → Start → Way → Type 0) → Procedure → Type 0
HasSome P Q proc = Any (λ c. Q proc c.start c.way) (courses_of P proc)

-- the procedures stand in the program from the number n on
abbrev pub StandFrom : Program → ℕ → List Procedure → Type 0
StandFrom P n ps = (j : ℕ) → slice_get P.procedures (n + j) ≡ slice_get ps j

pub all_stand : (P : Program) → StandFrom P 0 P.procedures
all_stand P = λ j. let same : 0 + j ≡ j = omega arith in ap (slice_get P.procedures) same

first_stands : (P : Program) (n : ℕ) (proc : Procedure) (ps : List Procedure) → StandFrom P n (proc ∷ ps)
    → slice_get P.procedures n ≡ Some proc
first_stands P n proc ps stand = let same : n ≡ n + 0 = omega arith in ap (slice_get P.procedures) same ∙ stand 0

rest_stand : (P : Program) (n : ℕ) (proc : Procedure) (ps : List Procedure) → StandFrom P n (proc ∷ ps)
    → StandFrom P (suc n) ps
rest_stand P n proc ps stand = λ j. let same : suc n + j ≡ n + suc j = omega arith in
    ap (slice_get P.procedures) same ∙ stand (suc j)

own_course : (n : ℕ) (cs : List Course) (k : ℕ) (d : Condition) → slice_get (map (condition n) cs) k ≡ Some d
    → (c : Course) × (slice_get cs k ≡ Some c) × (condition n c ≡ d)
own_course n [] k d at = absurd cc
own_course n (c ∷ cs) zero d at = let same : condition n c ≡ d = cc in (c, refl, same)
own_course n (c ∷ cs) (suc k) d at = own_course n cs k d at

-- the condition of a course stands where the course stands
condition_at : (P : Program) (n : ℕ) (proc : Procedure) (ps : List Procedure) (k : ℕ) (c : Course)
    → k < length (courses_of P proc) → c ≡ get_or (courses_of P proc) k c →
    slice_get (from_procedures P n (proc ∷ ps)) k ≡ Some (condition n c)
condition_at P n proc ps k c within is =
    let cs = courses_of P proc in
    let here = map (condition n) cs in
    let inside : k < length here = omega (arith, within, length-map cs (condition n)) in
    at_front here (from_procedures P (suc n) ps) k inside ∙ slice_get-map (condition n) cs k
    ∙ ap (option_map (condition n)) (slice_get_read cs (length cs) k c refl within is)

-- the condition at k is the first with the property, so its procedure is the first that has one
pub first_in : (P : Program) (Q : Procedure → Start → Way → Type 0) (n : ℕ) (ps : List Procedure) → StandFrom P n ps →
    (k : ℕ) (d : Condition) (q : Procedure) → slice_get (from_procedures P n ps) k ≡ Some d → IsOf P d q
    → Q q d.start d.way →
    ((j : ℕ) (e : Condition) (r : Procedure) → j < k → slice_get (from_procedures P n ps) j ≡ Some e → IsOf P e r
    → Q r e.start e.way → ⊥) → IsFirstWith (HasSome P Q) ps q
first_in P Q n [] stand k d q at of holds none = absurd cc
first_in P Q n (proc ∷ ps) stand k d q at of holds none =
    let cs = courses_of P proc in
    let here = map (condition n) cs in
    let rest = from_procedures P (suc n) ps in
    let its = first_stands P n proc ps stand in
    elim (over_or k (length here)) [
      | inl within ↦
          let found = own_course n cs k d (sym (at_front here rest k within) ∙ at) in
          let number : n ≡ d.procedure = ap (λ (e : Condition). e.procedure) found.2 in
          let same : proc ≡ q =
          one_value (slice_get P.procedures n) proc q its (ap (slice_get P.procedures) number ∙ of) in
          let there : Q q found.0.start found.0.way =
          subst (λ (e : Condition). Q q e.start e.way) (sym found.2) holds in
          let one : HasSome P Q proc = (
            k,
            found.0,
            slice_get_within cs k found.0 found.1,
            get_or_from_slice_get cs k found.0 found.0 found.1,
            subst (λ r. Q r found.0.start found.0.way) (sym same) there,
          ) in
          record {
            place = 0;
            within = omega arith;
            element = same;
            holds = subst (HasSome P Q) same one;
            earlier = λ j e less. absurd (omega (arith, less));
          }
      | inr past ↦
          let there : slice_get rest (k - length here) ≡ Some d =
          sym (at_back here rest k (k - length here) (omega (arith, past))) ∙ at in
          let later = first_in P Q (suc n) ps (rest_stand P n proc ps stand) (k - length here) d q there of holds
          (λ j e r less found. none (length here + j) e r (omega (arith, less, past))
          (at_back here rest (length here + j) j refl ∙ found)) in
          let size : length here ≡ length cs = length-map cs (condition n) in
          let empty : HasSome P Q proc → ⊥ = λ any.
          none any.0 (condition n any.1) proc (omega (arith, any.2, past, size))
          (condition_at P n proc ps any.0 any.1 any.2 (sym any.3)) its any.4 in
          after proc ps q empty later
    ]
  where
    after : (proc : Procedure) (ps : List Procedure) (q : Procedure) → (HasSome P Q proc → ⊥)
        → IsFirstWith (HasSome P Q) ps q → IsFirstWith (HasSome P Q) (proc ∷ ps) q
    after proc ps q empty later = record {
      place = suc later.place;
      within = omega (arith, later.within);
      element = later.element;
      holds = later.holds;
      earlier = by_place;
    }
      where
        by_place : (j : ℕ) (r : Procedure) → j < suc later.place → HasSome P Q (get_or (proc ∷ ps) j r) → ⊥
        by_place zero r less any = empty any
        by_place (suc j) r less any = later.earlier j r (omega (arith, less)) any

pub none_in : (P : Program) (Q : Procedure → Start → Way → Type 0) (n : ℕ) (ps : List Procedure) → StandFrom P n ps →
    ((j : ℕ) (e : Condition) (r : Procedure) → slice_get (from_procedures P n ps) j ≡ Some e → IsOf P e r
    → Q r e.start e.way → ⊥) → (proc : Procedure) → Contains ps proc → HasSome P Q proc → ⊥
none_in P Q n [] stand none proc there any = no_member proc there
none_in P Q n (q ∷ ps) stand none proc there any =
    let here = map (condition n) (courses_of P q) in
    let rest = from_procedures P (suc n) ps in
    elim (member_cases q ps proc there) [
      | inl same ↦
          let own : HasSome P Q q = subst (HasSome P Q) (sym same) any in
          none own.0 (condition n own.1) q (condition_at P n q ps own.0 own.1 own.2 (sym own.3))
          (first_stands P n q ps stand) own.4
      | inr more ↦
          none_in P Q (suc n) ps (rest_stand P n q ps stand)
          (λ j e r found. none (length here + j) e r (at_back here rest (length here + j) j refl ∙ found)) proc more
          any
    ]
