-- Alternatives: each is walked in its turn, and of several one is met.
use Rattle.std.specs.Prelude.{◌≡◌, ℕ, List, [], ◌∷◌, ◌++◌, map, length, Bool, true, false, not, ◌||◌, All, Contains}
use Rattle.std.proofs.Common.{refl, sym, ap, subst, inl, inr}
use Rattle.std.proofs.lemmas.Bool.{false≢true}
use Rattle.std.proofs.lemmas.List.Elements.{All-nil, All-cons, All-head, All-tail, All-append}
use Rattle.gh_base.specs.Meaning.{Interpretation}
use Rattle.gh_ast.specs.Plain.{Assertion}
use Rattle.gh_ast.proofs.Lists.{member_first, member_later, member_cases, no_member, only_member}
use Rattle.gh_assert.specs.Heaps.{Heap}
use Rattle.gh_assert.specs.Meaning.{Store, Meaning, MeetsOneOf}
use Rattle.gh_path.specs.Terms.{Kind, Terms, walked, each_walked}
use Rattle.gh_grass.specs.Claims.{GroundFormula, negation_of, ground_formulas_of, all_of, one_of}
use Rattle.gh_grass.specs.Truth.{truth, some_true, AreTrue}
use Rattle.gh_symb.specs.Symbolic.{Under, under, each_under, whole}
use Rattle.gh_symb.specs.Formulas.{meets, meets_whole, placed_formulas, kept_formulas, alternatives_formulas}
use Rattle.gh_symb.specs.Formulas.{part_formulas, check_formulas}
use Rattle.gh_trace.specs.Traces.{Replaced}
use Rattle.gh_model.proofs.terms.Extension.{Grows, stays, onto, walked_grows, each_grows}
use Rattle.gh_model.proofs.terms.Denotation.{Sound, before}
use Rattle.gh_model.proofs.reading.StepFormulas.{are_true}

-- what holds of each member holds of all
pub all_of_members : {X : Type 0} (P : X → Type 0) (xs : List X) → ((x : X) → Contains xs x → P x) → All P xs
all_of_members P [] f = All-nil P
all_of_members P (x ∷ xs) f =
    All-cons P x xs (f x (member_first x xs)) (all_of_members P xs (λ y there. f y (member_later x y xs there)))

-- an alternative, and the terms at which it is walked
pub record IsWalked (fs : List Assertion) (s : Terms) (f : Assertion) (t : Terms) : Type 0 where
  pub member : Contains fs f
  pub told : Contains (each_under fs s) (under f t)
  pub first : Grows s t
  pub last : Grows (walked f t) (each_walked fs s)

pub walked_there : (fs : List Assertion) (s : Terms) (f : Assertion) → Contains fs f → (t : Terms) × IsWalked fs s f t
walked_there [] s f there = absurd (no_member f there)
walked_there (g ∷ fs) s f there = elim (member_cases g fs f there) [
  | inl same ↦ (
    s,
    subst (λ h. IsWalked (g ∷ fs) s h s) same
        (record {
          member = member_first g fs;
          told = member_first (under g s) (each_under fs (walked g s));
          first = stays s;
          last = each_grows fs (walked g s);
        }),
  )
  | inr later ↦
      let r = walked_there fs (walked g s) f later in (
        r.0,
        record {
          member = member_later g f fs later;
          told = member_later (under g s) (under f r.0) (each_under fs (walked g s)) r.1.told;
          first =
              onto (walked_grows g s) r.1.first;
          last = r.1.last;
        },
      )
]

pub alternative_of : (fs : List Assertion) (s : Terms) (u : Under) → Contains (each_under fs s) u
    → (f : Assertion) × (t : Terms) × (u ≡ under f t) × IsWalked fs s f t
alternative_of [] s u there = absurd (no_member u there)
alternative_of (g ∷ fs) s u there = elim (member_cases (under g s) (each_under fs (walked g s)) u there) [
  | inl same ↦ (
    g,
    s,
    sym same,
    record {
      member = member_first g fs;
      told = member_first (under g s) (each_under fs (walked g s));
      first = stays s;
      last = each_grows fs (walked g s);
    },
  )
  | inr later ↦
      let r = alternative_of fs (walked g s) u later in (
        r.0,
        r.1,
        r.2,
        record {
          member = member_later g r.0 fs r.3.member;
          told = member_later (under g s) (under r.0 r.1) (each_under fs (walked g s)) r.3.told;
          first =
              onto (walked_grows g s) r.3.first;
          last = r.3.last;
        },
      )
]

pub alternative_sound : (K : List Kind) (V : List ℕ) (st : Store) (h : Heap) (fs : List Assertion) (s : Terms)
    (f : Assertion) (t : Terms) → IsWalked fs s f t → Sound K V st h (each_walked fs s) → Sound K V st h (walked f t)
alternative_sound K V st h fs s f t W S = before K V st h (walked f t) (each_walked fs s) W.last S

-- the alternative that is met where a part gives way
pub one_met : (f : Assertion) (s : Store) (h : Heap) (gs : List Assertion) (t : Store) (k : Heap)
    → Replaced f s h (MeetsOneOf gs t) k → (g : Assertion) × Contains gs g × Replaced f s h (Meaning g t) k
one_met f s h gs t k R =
    let (g, there, met) = R.meets in (
      g,
      there,
      record {
        part = R.part;
        frame = R.frame;
        other = R.other;
        splits = R.splits;
        met = R.met;
        joins = R.joins;
        meets = met;
      },
    )

pub met_one : (f : Assertion) (s : Store) (h : Heap) (gs : List Assertion) (g : Assertion) (t : Store) (k : Heap)
    → Contains gs g → Replaced f s h (Meaning g t) k → Replaced f s h (MeetsOneOf gs t) k
met_one f s h gs g t k there R =
    record {
      part = R.part;
      frame = R.frame;
      other = R.other;
      splits = R.splits;
      met = R.met;
      joins = R.joins;
      meets = (g, there, R.meets);
    }

abbrev IsHeld : Interpretation → GroundFormula → Type 0
IsHeld m f = truth m f ≡ true

rows_part : (m : Interpretation) (fs gs : List GroundFormula) → AreTrue m (fs ++ gs) → AreTrue m fs × AreTrue m gs
rows_part m [] gs A = (All-nil (IsHeld m), A)
rows_part m (f ∷ fs) gs A =
    let r = rows_part m fs gs (All-tail (IsHeld m) f (fs ++ gs) A) in
    (All-cons (IsHeld m) f fs (All-head (IsHeld m) f (fs ++ gs) A) r.0, r.1)

-- one of some formulas
some_held : (m : Interpretation) (F : Under → GroundFormula) (us : List Under) → truth m (one_of (map F us)) ≡ true
    → (u : Under) × Contains us u × IsHeld m (F u)
some_held m F [] e = absurd (false≢true e)
some_held m F (u ∷ us) e = by_test (λ later. some_held m F us later) (truth m (F u)) refl e
  where
    by_test : (some_true m (ground_formulas_of (map F us)) ≡ true → (v : Under) × Contains us v × IsHeld m (F v))
        → (b : Bool) → truth m (F u) ≡ b → (b || some_true m (ground_formulas_of (map F us))) ≡ true
        → (v : Under) × Contains (u ∷ us) v × IsHeld m (F v)
    by_test rest true on e = (u, member_first u us, on)
    by_test rest false off e = let r = rest e in (r.0, member_later u r.0 us r.1, r.2)

either_true : (a b : Bool) → b ≡ true → (a || b) ≡ true
either_true true b e = refl
either_true false b e = e

held_some : (m : Interpretation) (F : Under → GroundFormula) (us : List Under) (u : Under) → Contains us u
    → IsHeld m (F u) → truth m (one_of (map F us)) ≡ true
held_some m F [] u there e = absurd (no_member u there)
held_some m F (v ∷ us) u there e = elim (member_cases v us u there) [
  | inl same ↦ ap (λ b. b || some_true m (ground_formulas_of (map F us))) (subst (λ w. IsHeld m (F w)) (sym same) e)
  | inr later ↦ either_true (truth m (F v)) (some_true m (ground_formulas_of (map F us))) (held_some m F us u later e)
]

-- a part gives way to one of some alternatives where it gives way to that one
abbrev placed_of : List Kind → ℕ → Under → Under → GroundFormula
placed_of ks i u q = all_of (placed_formulas ks i u q)

one_placed : (m : Interpretation) (ks : List Kind) (i : ℕ) (u : Under) (qs : List Under)
    → AreTrue m (alternatives_formulas ks i u qs) → (q : Under) × Contains qs q × AreTrue m (placed_formulas ks i u q)
one_placed m ks i u [] A = absurd (false≢true (All-head (IsHeld m) (one_of []) [] A))
one_placed m ks i u (q ∷ []) A = (q, member_first q [], A)
one_placed m ks i u (q ∷ r ∷ qs) A =
    let s =
    some_held m (placed_of ks i u) (q ∷ r ∷ qs)
    (All-head (IsHeld m) (one_of (map (placed_of ks i u) (q ∷ r ∷ qs))) [] A) in
    (s.0, s.1, (are_true m (placed_formulas ks i u s.0)).1 s.2)

placed_one : (m : Interpretation) (ks : List Kind) (i : ℕ) (u : Under) (qs : List Under) (q : Under) → Contains qs q
    → AreTrue m (placed_formulas ks i u q) → AreTrue m (alternatives_formulas ks i u qs)
placed_one m ks i u [] q there A = absurd (no_member q there)
placed_one m ks i u (r ∷ []) q there A = subst (λ v. AreTrue m (placed_formulas ks i u v)) (only_member r q there) A
placed_one m ks i u (r ∷ s ∷ qs) q there A =
    All-cons (IsHeld m) (one_of (map (placed_of ks i u) (r ∷ s ∷ qs))) []
    (held_some m (placed_of ks i u) (r ∷ s ∷ qs) q there ((are_true m (placed_formulas ks i u q)).0 A))
    (All-nil (IsHeld m))

pub one_part : (m : Interpretation) (ks : List Kind) (i : ℕ) (u : Under) (qs : List Under)
    → AreTrue m (part_formulas ks i u qs) → (q : Under) × Contains qs q × AreTrue m (part_formulas ks i u (q ∷ []))
one_part m ks i u qs A =
    let front = rows_part m (meets ks u ∷ alternatives_formulas ks i u qs) (kept_formulas (length ks) i u) A in
    let first = All-head (IsHeld m) (meets ks u) (alternatives_formulas ks i u qs) front.0 in
    let r = one_placed m ks i u qs (All-tail (IsHeld m) (meets ks u) (alternatives_formulas ks i u qs) front.0) in (
      r.0,
      r.1,
      All-append (IsHeld m) (meets ks u ∷ placed_formulas ks i u r.0) (kept_formulas (length ks) i u)
          (All-cons (IsHeld m) (meets ks u) (placed_formulas ks i u r.0) first r.2) front.1,
    )

pub part_one : (m : Interpretation) (ks : List Kind) (i : ℕ) (u : Under) (qs : List Under) (q : Under) → Contains qs q
    → AreTrue m (part_formulas ks i u (q ∷ [])) → AreTrue m (part_formulas ks i u qs)
part_one m ks i u qs q there A =
    let front = rows_part m (meets ks u ∷ placed_formulas ks i u q) (kept_formulas (length ks) i u) A in
    let first = All-head (IsHeld m) (meets ks u) (placed_formulas ks i u q) front.0 in
    let rest = placed_one m ks i u qs q there (All-tail (IsHeld m) (meets ks u) (placed_formulas ks i u q) front.0) in
    All-append (IsHeld m) (meets ks u ∷ alternatives_formulas ks i u qs) (kept_formulas (length ks) i u)
    (All-cons (IsHeld m) (meets ks u) (alternatives_formulas ks i u qs) first rest) front.1

-- the whole heap meets none of some alternatives
abbrev pub Fails : Interpretation → List Kind → Under → Type 0
Fails m ks u = truth m (negation_of (meets_whole ks u)) ≡ true

not_of : (a : Bool) → (a ≡ true → ⊥) → not a ≡ true
not_of true n = absurd (n refl)
not_of false n = refl

not_both : (a : Bool) → not a ≡ true → a ≡ true → ⊥
not_both true n e = false≢true n
not_both false n e = false≢true e

pub none_met : (m : Interpretation) (ks : List Kind) (i : ℕ) (us : List Under)
    → ((u : Under) → Contains us u → Fails m ks u) → AreTrue m (check_formulas ks i (whole us))
none_met m ks i [] f = All-nil (IsHeld m)
none_met m ks i (u ∷ []) f =
    All-cons (IsHeld m) (negation_of (meets_whole ks u)) [] (f u (member_first u [])) (All-nil (IsHeld m))
none_met m ks i (u ∷ v ∷ us) f =
    let one = one_of (map (meets_whole ks) (u ∷ v ∷ us)) in
    All-cons (IsHeld m) (negation_of one) []
    (not_of (truth m one) (λ e. let r = some_held m (meets_whole ks) (u ∷ v ∷ us) e in
    not_both (truth m (meets_whole ks r.0)) (f r.0 r.1) r.2)) (All-nil (IsHeld m))

pub met_none : (m : Interpretation) (ks : List Kind) (i : ℕ) (us : List Under) (u : Under) → Contains us u
    → AreTrue m (check_formulas ks i (whole us)) → Fails m ks u
met_none m ks i [] u there A = absurd (no_member u there)
met_none m ks i (v ∷ []) u there A =
    subst (Fails m ks) (sym (only_member v u there)) (All-head (IsHeld m) (negation_of (meets_whole ks v)) [] A)
met_none m ks i (v ∷ w ∷ us) u there A =
    let one = one_of (map (meets_whole ks) (v ∷ w ∷ us)) in
    not_of (truth m (meets_whole ks u))
    (λ e. not_both (truth m one) (All-head (IsHeld m) (negation_of one) [] A)
    (held_some m (meets_whole ks) (v ∷ w ∷ us) u there e))
