-- First ones without a property, in lists that are joined, and in lists of found ones.
use Rattle.std.proofs.Common.{◌≡◌, ◌⊎◌, inl, inr, ℕ, suc, get_or, ◌+◌, ◌-◌, ◌<◌, ◌≤◌, List, [], ◌∷◌, ◌++◌, append-nil}
use Rattle.std.proofs.Common.{length, take, drop, map, All, Option, option_map, Some, None, refl, sym, ap, subst, ◌∙◌}
use Rattle.std.proofs.Common.{arith}
use Rattle.std.specs.Prelude.{slice_get, Contains}
use Rattle.std.specs.List.{flat_map, range_with_len}
use Rattle.std.proofs.lemmas.List.{take-append-drop, take_more, take_all, map-id}
use Rattle.std.proofs.lemmas.List.Concat.{flat_map-cons}
use Rattle.std.proofs.lemmas.Grind.{flat_map-append}
use Rattle.std.proofs.lemmas.List.Elements.{All-append, All-nil, All-cons, All-head, All-tail, All-weaker, All-contains}
use Rattle.std.proofs.lemmas.List.Elements.{Contains-append_left}
use Rattle.std.proofs.lemmas.Option.{get_or_from_slice_get}
use Rattle.gh_base.specs.declared.atom.Term.{Term}
use Rattle.gh_base.specs.declared.sizes.Sizes.{Sizes}
use Rattle.gh_base.specs.Meaning.{Interpretation, IsClauseTrue}
use Rattle.gh_base.specs.Structures.{interpretation_of}
use Rattle.gh_inst.specs.declared.collecting.Looked.{Looked}
use Rattle.gh_inst.specs.declared.naming.InstanceName.{InstanceName}
use Rattle.gh_inst.specs.Instances.{name_of, row_instances, row_in}
use Rattle.gh_inst.specs.Table.{AxiomRow, table, row_with}
use Rattle.gh_inst.specs.Tuples.{tuples}
use Rattle.gh_inst.specs.Search.{IsSearched, IsRowTrue, tuples_with}
use Rattle.gh_inst.specs.Violations.{IsFirstWithout, IsInstanceTrue, IsFirstFalse}
use Rattle.gh_inst.specs.Collecting.{IsFalseInstance, Gathers, GathersAt, IsTrueAt, IsNamed, AreNamed}
use Rattle.gh_inst.proofs.TupleLemmas.{term_there, terms_length}
use Rattle.gh_inst.proofs.SearchLemmas.{among, range_below}
use Rattle.gh_inst.proofs.ViolationLemmas.{clause_there}
use Rattle.gh_inst.proofs.CollectingLemmas.{nothing_added, one_added, added_on, some_added, take_more_all, earlier_or}
use Rattle.gh_base.proofs.ListLemmas.{get_within}
use Rattle.gh_base.specs.Atoms.{term, terms_below}

-- where there is one, not all have the property
pub first_off : {X : Type 0} (P : X → Type 0) (all : List X) (x : X) → IsFirstWithout P all x → All P all → ⊥
first_off P all x f h =
    f.without (All-contains P all x h (subst (λ l. Contains l x) (sym f.here) (among f.before x f.after)))

one_first : {X : Type 0} (P : X → Type 0) (x : X) (all : List X) → ¬ P x → IsFirstWithout P (x ∷ all) x
one_first P x all off = record { before = []; after = all; here = refl; earlier = All-nil P; without = off }

later_first : {X : Type 0} (P : X → Type 0) (y : X) (all : List X) (x : X) → P y → IsFirstWithout P all x
    → IsFirstWithout P (y ∷ all) x
later_first P y all x on f =
    record {
      before = y ∷ f.before;
      after = f.after;
      here = ap (λ l. y ∷ l) f.here;
      earlier = All-cons P y f.before on f.earlier;
      without = f.without;
    }

-- the first one is the first element, or this has the property
head_or_later : {X : Type 0} (P : X → Type 0) (y : X) (all : List X) (x : X) (before after : List X)
    → y ∷ all ≡ before ++ x ∷ after → All P before → ¬ P x → ((x ≡ y) × ¬ P y) ⊎ (P y × IsFirstWithout P all x)
head_or_later P y all x [] after e earlier off =
    let same : y ≡ x = cc in inl (sym same, subst (λ z. ¬ P z) (sym same) off)
head_or_later P y all x (b ∷ bs) after e earlier off =
    let same : y ≡ b = cc in
    let rest : all ≡ bs ++ x ∷ after = cc in
    inr (
      subst P (sym same) (All-head P b bs earlier),
      record { before = bs; after = after; here = rest; earlier = All-tail P b bs earlier; without = off },
    )

-- of two lists that are joined, it is the first of one
pub first_split : {X : Type 0} (P : X → Type 0) (one two : List X) (x : X) → IsFirstWithout P (one ++ two) x
    → IsFirstWithout P one x ⊎ (All P one × IsFirstWithout P two x)
first_split P [] two x f = inr (All-nil P, f)
first_split P (y ∷ ys) two x f =
    elim (head_or_later P y (ys ++ two) x f.before f.after f.here f.earlier f.without) as
    (λ _. IsFirstWithout P (y ∷ ys) x ⊎ (All P (y ∷ ys) × IsFirstWithout P two x)) [
      | inl h ↦ inl (subst (IsFirstWithout P (y ∷ ys)) (sym h.0) (one_first P y ys h.1))
      | inr l ↦
          elim (first_split P ys two x l.1) as
          (λ _. IsFirstWithout P (y ∷ ys) x ⊎ (All P (y ∷ ys) × IsFirstWithout P two x)) [
            | inl g ↦ inl (later_first P y ys x l.0 g)
            | inr g ↦ inr (All-cons P y ys l.0 g.0, g.1)
          ]
    ]

-- there is one at most
pub first_unique : {X : Type 0} (P : X → Type 0) (all : List X) (x z : X) → IsFirstWithout P all x
    → IsFirstWithout P all z → x ≡ z
first_unique P [] x z f g = absurd (first_off P [] x f (All-nil P))
first_unique P (y ∷ ys) x z f g =
    elim (head_or_later P y ys x f.before f.after f.here f.earlier f.without) as (λ _. x ≡ z) [
      | inl h ↦
          elim (head_or_later P y ys z g.before g.after g.here g.earlier g.without) as (λ _. x ≡ z) [
            | inl k ↦ h.0 ∙ sym k.0
            | inr k ↦ absurd (h.1 k.0)
          ]
      | inr h ↦
          elim (head_or_later P y ys z g.before g.after g.here g.earlier g.without) as (λ _. x ≡ z) [
            | inl k ↦ absurd (k.1 h.0)
            | inr k ↦ first_unique P ys x z h.1 k.1
          ]
    ]

-- it is the first of some block
pub first_in_blocks : {X Y : Type 0} (P : Y → Type 0) (f : X → List Y) (xs : List X) (y : Y)
    → IsFirstWithout P (flat_map f xs) y → (k : ℕ) × (x : X) × (slice_get xs k ≡ Some x) × IsFirstWithout P (f x) y
first_in_blocks P f [] y g = absurd (first_off P [] y g (All-nil P))
first_in_blocks P f (x ∷ xs) y g =
    elim (first_split P (f x) (flat_map f xs) y g) [
      | inl h ↦ (0, x, refl, h)
      | inr h ↦ let w = first_in_blocks P f xs y h.1 in (suc w.0, w.1, w.2, w.3)
    ]

-- what is the first of a list's images is one of the list's first
pub first_of_map : {X Y : Type 0} (P : X → Type 0) (Q : Y → Type 0) (g : X → Y) → ((x : X) → P x → Q (g x))
    → ((x : X) → Q (g x) → P x) → (xs : List X) (y : Y) → IsFirstWithout Q (map g xs) y
    → (x : X) × IsFirstWithout P xs x × (g x ≡ y)
first_of_map P Q g to from [] y f = absurd (first_off Q [] y f (All-nil Q))
first_of_map P Q g to from (x ∷ xs) y f =
    elim (head_or_later Q (g x) (map g xs) y f.before f.after f.here f.earlier f.without) [
      | inl h ↦ (x, one_first P x xs (λ holds. h.1 (to x holds)), sym h.0)
      | inr h ↦ let w = first_of_map P Q g to from xs y h.1 in (w.0, later_first P x xs w.0 (from x h.0) w.1, w.2)
    ]

grown : (s : Sizes) (m : Interpretation) (G : Type 0) (old new : List InstanceName) (name : InstanceName)
    → Gathers s m old new G → Contains old name → Contains new name
grown s m G old new name g there =
    subst (λ l. Contains l name) (sym g.added) (Contains-append_left old g.more name there)

-- nothing was added since the row is true
pub at_nothing : (r : Looked) (all : List (List Term)) (old : List InstanceName) → All (IsTrueAt r) all
    → GathersAt r all old old
at_nothing r all old h = record {
  gathers = nothing_added r.structure.now.sizes (interpretation_of r.structure.now) old h;
  sound = λ _. refl;
  first = λ tuple f. absurd (first_off (IsTrueAt r) all tuple f h);
}

pub at_none : (r : Looked) (all : List (List Term)) (old : List InstanceName) (v : ℕ) (found : Option (List Term))
    → IsSearched (IsTrueAt r) all (option_map (take v) found) → ((t : List Term) → found ≡ Some t → ⊥)
    → GathersAt r all old old
at_none r all old v None s h = at_nothing r all old s.comes
at_none r all old v (Some t) s h = absurd (h t refl)

-- the first one was
pub at_one : (r : Looked) (all : List (List Term)) (old : List InstanceName) (tuple : List Term)
    → IsFirstWithout (IsTrueAt r) all tuple
    → IsFalseInstance r.structure.now.sizes (interpretation_of r.structure.now) (name_of r.number r.version tuple)
    → GathersAt r all old (old ++ name_of r.number r.version tuple ∷ [])
at_one r all old tuple f is = record {
  gathers =
      one_added r.structure.now.sizes (interpretation_of r.structure.now) old (name_of r.number r.version tuple) is;
  sound = λ h. absurd (first_off (IsTrueAt r) all tuple f h);
  first = λ other g.
      let same : tuple ≡ other = first_unique (IsTrueAt r) all tuple other f g in
      subst (λ t. Contains (old ++ name_of r.number r.version tuple ∷ []) (name_of r.number r.version t)) same
      (among old (name_of r.number r.version tuple) []);
}

all_front : {X : Type 0} (Q : X → Type 0) (xs ys : List X) → All Q (xs ++ ys) → All Q xs
all_front Q [] ys h = All-nil Q
all_front Q (x ∷ xs) ys h = All-cons Q x xs (All-head Q x (xs ++ ys) h) (all_front Q xs ys (All-tail Q x (xs ++ ys) h))

all_back : {X : Type 0} (Q : X → Type 0) (xs ys : List X) → All Q (xs ++ ys) → All Q ys
all_back Q [] ys h = h
all_back Q (x ∷ xs) ys h = all_back Q xs ys (All-tail Q x (xs ++ ys) h)

-- at some tuples, and then at others
pub at_both : (r : Looked) (one two : List (List Term)) (old mid new : List InstanceName) → GathersAt r one old mid
    → GathersAt r two mid new → GathersAt r (one ++ two) old new
at_both r one two old mid new a b =
    let P : List Term → Type 0 = IsTrueAt r in
    let s = r.structure.now.sizes in
    let m = interpretation_of r.structure.now in
    record {
      gathers = added_on s m old mid new a.gathers b.gathers (λ x y. All-append P one two x y);
      sound = λ h. b.sound (all_back P one two h) ∙ a.sound (all_front P one two h);
      first =
          λ tuple f. elim (first_split P one two tuple f) as (λ _. Contains new (name_of r.number r.version tuple)) [
            | inl g ↦ grown s m (All P two) mid new (name_of r.number r.version tuple) b.gathers (a.first tuple g)
            | inr g ↦ b.first tuple g.1
          ];
    }

-- only at some, since enough were added there
pub at_stopped : (r : Looked) (one two : List (List Term)) (old new : List InstanceName) → GathersAt r one old new
    → length old < length new → GathersAt r (one ++ two) old new
at_stopped r one two old new a longer =
    let P : List Term → Type 0 = IsTrueAt r in
    let some : All P one → ⊥ = λ h. let same : length new ≡ length old = ap length (a.sound h) in
    omega (arith, longer) in
    record {
      gathers = some_added r.structure.now.sizes (interpretation_of r.structure.now) old new a.gathers longer;
      sound = λ h. absurd (some (all_front P one two h));
      first =
          λ tuple f. elim (first_split P one two tuple f) as (λ _. Contains new (name_of r.number r.version tuple)) [
            | inl g ↦ a.first tuple g
            | inr g ↦ absurd (some g.0)
          ];
    }

-- the turn of a loop over the terms that come next
pub at_next : (r : Looked) (f : Term → List (List Term)) (k : ℕ) (old mid new : List InstanceName)
    → k < r.structure.now.sizes.terms
    → GathersAt r (flat_map f (take k (terms_below r.structure.now.sizes.terms))) old mid
    → GathersAt r (f (term k)) mid new
    → GathersAt r (flat_map f (take (k + 1) (terms_below r.structure.now.sizes.terms))) old new
at_next r f k old mid new below a b =
    let ts = terms_below r.structure.now.sizes.terms in
    let long : k < length ts = let l = terms_length r.structure.now.sizes.terms in omega (arith, l, below) in
    let here : get_or ts k (term k) ≡ term k =
    get_or_from_slice_get ts k (term k) (term k) (term_there r.structure.now.sizes.terms k below) in
    let longer : take (k + 1) ts ≡ take k ts ++ term k ∷ [] =
    take_more ts k (term k) long ∙ ap (λ t. take k ts ++ t ∷ []) here in
    let joined : flat_map f (take (k + 1) ts) ≡ flat_map f (take k ts) ++ f (term k) =
    ap (flat_map f) longer ∙ flat_map-append f (take k ts) (term k ∷ [])
    ∙ ap (λ l. flat_map f (take k ts) ++ l) (flat_map-cons f (term k) [] ∙ append-nil (f (term k))) in
    subst (λ l. GathersAt r l old new) (sym joined) (at_both r (flat_map f (take k ts)) (f (term k)) old mid new a b)

-- its end
pub at_end : (r : Looked) (f : Term → List (List Term)) (k : ℕ) (old new : List InstanceName)
    → r.structure.now.sizes.terms ≤ k
    → GathersAt r (flat_map f (take k (terms_below r.structure.now.sizes.terms))) old new
    → GathersAt r (flat_map f (terms_below r.structure.now.sizes.terms)) old new
at_end r f k old new past a =
    let ts = terms_below r.structure.now.sizes.terms in
    subst (λ l. GathersAt r (flat_map f l) old new)
    (take_all k ts (let l = terms_length r.structure.now.sizes.terms in omega (arith, l, past))) a

-- its exit
pub at_exit : (r : Looked) (f : Term → List (List Term)) (k : ℕ) (old new : List InstanceName) → length old < length new
    → GathersAt r (flat_map f (take k (terms_below r.structure.now.sizes.terms))) old new
    → GathersAt r (flat_map f (terms_below r.structure.now.sizes.terms)) old new
at_exit r f k old new longer a =
    let ts = terms_below r.structure.now.sizes.terms in
    let parts : flat_map f (take k ts) ++ flat_map f (drop k ts) ≡ flat_map f ts =
    sym (flat_map-append f (take k ts) (drop k ts)) ∙ ap (flat_map f) (take-append-drop k ts) in
    subst (λ l. GathersAt r l old new) parts
    (at_stopped r (flat_map f (take k ts)) (flat_map f (drop k ts)) old new a longer)

-- from the tuples of a row to its instances in a version
pub named_row : (r : Looked) (old new : List InstanceName)
    → GathersAt r (tuples_with (r.variables - 0) r.structure.now.sizes.terms []) old new
    → (q : AxiomRow) → row_with q.number table ≡ Some q → q.number ≡ r.number → q.variables ≡ r.variables
    → q.lits ≡ r.lits.now → IsNamed r.structure.now.sizes (interpretation_of r.structure.now) r.version new q
named_row r old new a q found numbers variables lits =
    let m = interpretation_of r.structure.now in
    let n = r.structure.now.sizes.terms in
    let v = r.version in
    let P : List Term → Type 0 = IsTrueAt r in
    let Q : InstanceName → Type 0 = IsInstanceTrue m in
    let whole : r.variables - 0 ≡ r.variables = omega arith in
    let all : tuples q.variables n ≡ tuples_with (r.variables - 0) n [] =
    ap (λ k. tuples k n) variables ∙ sym (ap (λ k. tuples_with k n []) whole ∙ map-id (tuples r.variables n)) in
    record {
      first = λ name f.
          let w = first_of_map P Q (name_of q.number v)
          (λ t h. subst (IsClauseTrue m) (sym (clause_there q.number v q t found))
          (subst (λ ls. IsRowTrue m v ls t) (sym lits) h))
          (λ t h. subst (λ ls. IsRowTrue m v ls t) lits (subst (IsClauseTrue m) (clause_there q.number v q t found) h))
          (tuples q.variables n) name f in
          let here : Contains new (name_of r.number v w.0) =
          a.first w.0 (subst (λ ts. IsFirstWithout P ts w.0) all w.1) in
          subst (Contains new) (ap (λ k. name_of k v w.0) (sym numbers) ∙ w.2) here;
    }

pub named_grown : (s : Sizes) (m : Interpretation) (version : ℕ) (G : Type 0) (old new : List InstanceName)
    (q : AxiomRow) → Gathers s m old new G → IsNamed s m version old q → IsNamed s m version new q
named_grown s m version G old new q g h = record { first = λ name f. grown s m G old new name g (h.first name f) }

-- the turn of a loop over rows
pub named_next : (s : Sizes) (m : Interpretation) (version k : ℕ) (G : Type 0) (old new : List InstanceName)
    (r : AxiomRow) → slice_get table k ≡ Some r → Gathers s m old new G
    → All (IsNamed s m version old) (take k table) → IsNamed s m version new r
    → All (IsNamed s m version new) (take (k + 1) table)
named_next s m version k G old new r e g h one =
    take_more_all (IsNamed s m version new) table k r e
    (All-weaker (IsNamed s m version old) (IsNamed s m version new) (λ q x. named_grown s m version G old new q g x)
    (take k table) h) one

-- the turn of a loop over versions
pub named_versions : (s : Sizes) (m : Interpretation) (k : ℕ) (G : Type 0) (old new : List InstanceName)
    → Gathers s m old new G → ((v : ℕ) → v < k → AreNamed s m v old) → AreNamed s m k new
    → (v : ℕ) → v < k + 1 → AreNamed s m v new
named_versions s m k G old new g h one v below =
    earlier_or {P = λ u. AreNamed s m u new} k v below
    (λ u lower. record {
      rows = All-weaker (IsNamed s m u old) (IsNamed s m u new)
          (λ q x. named_grown s m u G old new q g x) table (h u lower).rows;
    }) one

all_at : {X : Type 0} (P : X → Type 0) (xs : List X) (k : ℕ) (x : X) → All P xs → slice_get xs k ≡ Some x → P x
all_at P xs k x h at = subst P (get_or_from_slice_get xs k x x at) (h k x (get_within xs k x at))

-- so the first of all that are false is named
pub first_named : (s : Sizes) (m : Interpretation) (found : List InstanceName)
    → ((v : ℕ) → v < s.versions → AreNamed s m v found) → (name : InstanceName) → IsFirstFalse s m name
    → Contains found name
first_named s m found h name f =
    let Q : InstanceName → Type 0 = IsInstanceTrue m in
    let w = first_in_blocks Q (row_instances s.terms s.versions) table name f in
    let u = first_in_blocks Q (λ v. row_in s v w.1) (range_with_len 0 s.versions) name w.3 in
    let below : u.1 < s.versions =
    all_at (λ v. v < s.versions) (range_with_len 0 s.versions) u.0 u.1
    (range_below 0 s.versions s.versions (omega arith)) u.2 in
    (all_at (IsNamed s m u.1 found) table w.0 w.1 (h u.1 below).rows w.2).first name u.3
