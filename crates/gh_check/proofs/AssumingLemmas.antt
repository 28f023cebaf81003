-- What assumed literals give, along a search.
use Rattle.std.proofs.Common.{◌≡◌, ◌≢◌, ◌⊎◌, ℕ, zero, suc, ◌+◌, ◌<◌, ◌≤◌, List, [], ◌∷◌, ◌++◌, length, take, Option}
use Rattle.std.proofs.Common.{Some, None, Bool, true, false, not, inl, inr, refl, sym, ap, ◌∙◌, subst, arith, map}
use Rattle.std.proofs.Common.{append_assoc, get_or, take_all}
use Rattle.std.specs.Prelude.{Contains, slice_get, IfSome, IfNone, IsTrue, is_some}
use Rattle.std.proofs.lemmas.Bool.{cases_eq}
use Rattle.std.proofs.lemmas.Option.{slice_get-get_or}
use Rattle.std.proofs.lemmas.List.Elements.{All-contains, All-map, All-push, Contains-get_or}
use Rattle.std.proofs.lemmas.List.{take_more}
use Rattle.gh_base.specs.declared.atom.Atom.{Atom}
use Rattle.gh_base.specs.declared.atom.Lit.{Lit}
use Rattle.gh_base.specs.declared.sizes.Sizes.{Sizes}
use Rattle.gh_base.specs.Atoms.{opposite, IsInRange, AreInRange, number_of}
use Rattle.gh_base.specs.Propagation.{Propagated, given, forced, IsRefutedByUnits, FollowsByUnits}
use Rattle.gh_base.proofs.NumberLemmas.{apart}
use Rattle.gh_sat.specs.declared.trail.Step.{Step}
use Rattle.gh_sat.specs.Trail.{Line, SearchState, IsTrueIn, IsFalseIn, IsFree, IsSound, open_level}
use Rattle.gh_sat.specs.Status.{IsSettled, IsForced, AreForced}
use Rattle.gh_sat.specs.Watch.{WasOpen}
use Rattle.gh_sat.specs.Learn.{IsConflictAt}
use Rattle.gh_sat.specs.Whole.{PropagatesTo}
use Rattle.gh_base.proofs.ListLemmas.{get_within, get_front, get_push, get_last}
use Rattle.gh_sat.proofs.TrailLemmas.{same_lit}
use Rattle.gh_sat.proofs.StatusLemmas.{not_both}
use Rattle.gh_sat.proofs.WatchLemmas.{append_nil}
use Rattle.gh_sat.proofs.LearnLemmas.{in_get}
use Rattle.gh_sat.proofs.FirstLevelLemmas.{given_below}
use Rattle.gh_check.specs.Assuming.{AreGiven, IsRefuting, IsAssumed}

pub in_place : {X : Type 0} (xs : List X) (x : X) → Contains xs x → (k : ℕ) × (slice_get xs k ≡ Some x)
in_place xs x h = (h.0, slice_get-get_or xs h.0 x h.1 ∙ ap Some h.2)

pub given_true : (clauses : List (List Lit)) (assumed : List Lit) (trail : List Step) (l : Lit)
    → AreGiven clauses assumed trail → IsTrueIn trail l → Propagated clauses assumed l
given_true clauses assumed trail l g s = subst (Propagated clauses assumed) s.4 (g s.0 s.1 s.3)

given_push : (clauses : List (List Lit)) (assumed : List Lit) (trail : List Step) (x : Step)
    → AreGiven clauses assumed trail → Propagated clauses assumed x.lit → AreGiven clauses assumed (trail ++ x ∷ [])
given_push clauses assumed trail x g p i y at = elim (get_push trail x i y at) [
  | inl old ↦ g i y old
  | inr new ↦ subst (λ (z : Step). Propagated clauses assumed z.lit) new.1 p
]

forced_given : (clauses : List (List Lit)) (assumed : List Lit) (level : ℕ) (trail : List Step) (x : Step)
    → AreGiven clauses assumed trail → IsForced clauses level trail x → Propagated clauses assumed x.lit
forced_given clauses assumed level trail x g f =
    forced f.clause x.lit (in_get clauses f.number f.clause f.at) f.unit.there
    (λ m in_c ne. elim (All-contains (λ l. (l ≡ x.lit) ⊎ IsTrueIn trail (opposite l)) f.clause m f.unit.others in_c) [
      | inl e ↦ absurd (ne e)
      | inr t ↦ given_true clauses assumed trail (opposite m) g t
    ])

pub given_more : (clauses : List (List Lit)) (assumed : List Lit) (level : ℕ) (trail added : List Step)
    → AreForced clauses level trail added → AreGiven clauses assumed trail → AreGiven clauses assumed (trail ++ added)
given_more clauses assumed level trail [] f g = subst (AreGiven clauses assumed) (sym (append_nil trail)) g
given_more clauses assumed level trail (x ∷ xs) f g =
    subst (AreGiven clauses assumed) (append_assoc trail (x ∷ []) xs)
    (given_more clauses assumed level (trail ++ x ∷ []) xs f.1
    (given_push clauses assumed trail x g (forced_given clauses assumed level trail x g f.0)))

-- at level 0 nothing has to be assumed
pub given_at_first : (s : SearchState) (assumed : List Lit) → IsSound s → s.starts ≡ []
    → AreGiven s.clauses assumed s.trail
given_at_first s assumed h none i x at = given_below s assumed h none (suc i) i x (omega arith) at

-- a false clause is a contradiction
pub false_refutes : (clauses : List (List Lit)) (assumed : List Lit) (trail : List Step) (k : ℕ) (c : List Lit)
    → slice_get clauses k ≡ Some c → IsFalseIn trail c → AreGiven clauses assumed trail
    → IsRefutedByUnits clauses assumed
false_refutes clauses assumed trail k c at f g =
    inr (c, in_get clauses k c at, λ j d lt. given_true clauses assumed trail (opposite (get_or c j d)) g (f j d lt))

pub conflict_refutes : (s : SearchState) (assumed : List Lit) (k : ℕ) → IsConflictAt s k
    → AreGiven s.clauses assumed s.trail → IsRefutedByUnits s.clauses assumed
conflict_refutes s assumed k c g = false_refutes s.clauses assumed s.trail k c.clause c.at c.is_false g

-- a literal that is true already
pub true_refutes : (s : SearchState) (lit : Lit) → IsTrueIn s.trail lit → IsRefuting s (opposite lit)
true_refutes s lit t assumed there g =
    inl (lit, given_true s.clauses assumed s.trail lit g t, given (opposite lit) there)

module _ (s mid new : SearchState) (lit : Lit) (opens : mid ≡ open_level s lit) (moves : PropagatesTo mid new) where
  same_clauses : new.clauses ≡ s.clauses
  same_clauses = moves.clauses ∙ ap (λ (t : SearchState). t.clauses) opens

  given_then : (assumed : List Lit) → Contains assumed lit → AreGiven s.clauses assumed s.trail
      → AreGiven s.clauses assumed new.trail
  given_then assumed there g =
      let y : Step = record { lit = lit; level = length s.starts + 1; reason = None } in
      let first : AreGiven s.clauses assumed (s.trail ++ y ∷ []) =
      given_push s.clauses assumed s.trail y g (given lit there) in
      let opened : AreGiven mid.clauses assumed mid.trail =
      subst (λ (t : SearchState). AreGiven t.clauses assumed t.trail) (sym opens) first in
      let grows = moves.grows in
      let then : AreGiven mid.clauses assumed (mid.trail ++ grows.0) =
      given_more mid.clauses assumed (length mid.starts) mid.trail grows.0 grows.2 opened in
      subst (λ (cs : List (List Lit)). AreGiven cs assumed new.trail) (ap (λ (t : SearchState). t.clauses) opens)
      (subst (AreGiven mid.clauses assumed) (sym grows.1) then)

  pub refuting_after : (k : ℕ) → IsConflictAt new k → IsRefuting s lit
  refuting_after k c assumed there g =
      subst (λ (cs : List (List Lit)). IsRefutedByUnits cs assumed) same_clauses
      (conflict_refutes new assumed k c
      (subst (λ (cs : List (List Lit)). AreGiven cs assumed new.trail) (sym same_clauses)
      (given_then assumed there g)))

  keeps_true : (l : Lit) → IsTrueIn mid.trail l → IsTrueIn new.trail l
  keeps_true l t =
      let grows = moves.grows in
      let at = get_front mid.trail grows.0 t.0 t.1 t.3 in
      subst (λ (tr : List Step). IsTrueIn tr l) (sym grows.1)
      (t.0, t.1, get_within (mid.trail ++ grows.0) t.0 t.1 at, at, t.4)

  opened_true : (l : Lit) → IsTrueIn (open_level s lit).trail l → IsTrueIn new.trail l
  opened_true l t = keeps_true l (subst (λ (w : SearchState). IsTrueIn w.trail l) (sym opens) t)

  pub assumed_after : IsSettled new → IsSound new → IsAssumed s new lit
  assumed_after calm h =
      let y : Step = record { lit = lit; level = length s.starts + 1; reason = None } in
      record {
        settled = calm;
        sound = h;
        there = let at = get_last s.trail y in
            opened_true lit (length s.trail, y, get_within (s.trail ++ y ∷ []) (length s.trail) y at, at, refl);
        keeps = λ l t. let at = get_front s.trail (y ∷ []) t.0 t.1 t.3 in
            opened_true l (t.0, t.1, get_within (s.trail ++ y ∷ []) t.0 t.1 at, at, t.4);
        given = given_then;
      }

bool_cases : (a b : Bool) → (a ≡ b) ⊎ (a ≡ not b)
bool_cases true true = inl refl
bool_cases true false = inr refl
bool_cases false true = inr refl
bool_cases false false = inl refl

not_itself : (b : Bool) → b ≡ not b → ⊥
not_itself true e = cc
not_itself false e = cc

pub lit_cases : (z : Sizes) (a b : Lit) → IsInRange z a.atom → IsInRange z b.atom → (a ≡ b) ⊎ (a ≢ b)
lit_cases z a b h k = elim (cases_eq (number_of z a.atom) (number_of z b.atom)) [
  | inl e ↦ elim (bool_cases a.positive b.positive) [
    | inl f ↦ inl (same_lit a b (apart z a.atom b.atom h k e) f)
    | inr f ↦ inr (λ q. not_itself b.positive (sym (ap (λ (l : Lit). l.positive) q) ∙ f))
  ]
  | inr n ↦ inr (λ q. n (ap (λ (l : Lit). number_of z l.atom) q))
]

free_cons : (y : Step) (ys : List Step) (a : Atom) → (y.lit.atom ≡ a → ⊥) → IsFree ys a → IsFree (y ∷ ys) a
free_cons y ys a n f zero x e = λ q. n (let same : y ≡ x = cc in ap (λ (s : Step). s.lit.atom) same ∙ q)
free_cons y ys a n f (suc i) x e = f i x e

free_none : (a : Atom) → IsFree [] a
free_none a i x at = λ q. let lt = get_within [] i x at in absurd (omega arith)

-- the step of an atom, or it has none
found : (z : Sizes) (trail : List Step) (a : Atom)
    → ((i : ℕ) (x : Step) → slice_get trail i ≡ Some x → IsInRange z x.lit.atom) → IsInRange z a
    → ((i : ℕ) × (x : Step) × (slice_get trail i ≡ Some x) × (x.lit.atom ≡ a)) ⊎ IsFree trail a
found z [] a r h = inr (free_none a)
found z (y ∷ ys) a r h = elim (cases_eq (number_of z y.lit.atom) (number_of z a)) [
  | inl e ↦ inl (0, y, refl, apart z y.lit.atom a (r 0 y refl) h e)
  | inr n ↦ elim (found z ys a (λ i x at. r (suc i) x at) h) [
    | inl w ↦ inl (suc w.0, w.1, w.2, w.3)
    | inr f ↦ inr (free_cons y ys a (λ q. n (ap (number_of z) q)) f)
  ]
]

-- a literal is true, or false, or its atom has no truth
truth_of : (s : SearchState) (l : Lit) → IsSound s → IsInRange s.sizes l.atom
    → IsTrueIn s.trail l ⊎ (IsTrueIn s.trail (opposite l) ⊎ IsFree s.trail l.atom)
truth_of s l h r = elim (found s.sizes s.trail l.atom h.steps.range r) [
  | inl w ↦ elim (bool_cases w.1.lit.positive l.positive) [
    | inl e ↦ inl (w.0, w.1, get_within s.trail w.0 w.1 w.2, w.2, same_lit w.1.lit l w.3 e)
    | inr e ↦ inr (inl (w.0, w.1, get_within s.trail w.0 w.1 w.2, w.2, same_lit w.1.lit (opposite l) w.3 e))
  ]
  | inr f ↦ inr (inr f)
]

-- where no clause is false or unit, what is true is closed under propagation
closed : (s : SearchState) (c : List Lit) (l : Lit) → IsSound s → IsSettled s → Contains s.clauses c → Contains c l
    → ((m : Lit) → Contains c m → m ≢ l → IsTrueIn s.trail (opposite m)) → IsTrueIn s.trail l
closed s c l h calm among there rest =
    let all : AreInRange s.sizes c = All-contains (AreInRange s.sizes) s.clauses c h.in_range among in
    let ranged : (m : Lit) → Contains c m → IsInRange s.sizes m.atom =
    λ m in_c. All-contains (λ (x : Lit). IsInRange s.sizes x.atom) c m all in_c in
    let place = in_place s.clauses c among in
    elim (truth_of s l h (ranged l there)) [
      | inl t ↦ t
      | inr (inl f) ↦ absurd (calm.no_false place.0 c place.1 (λ k d lt.
          let m : Lit = get_or c k d in
          let in_c = Contains-get_or c k d lt in
          elim (lit_cases s.sizes m l (ranged m in_c) (ranged l there)) [
            | inl e ↦ subst (λ (x : Lit). IsTrueIn s.trail (opposite x)) (sym e) f
            | inr n ↦ rest m in_c n
          ]))
      | inr (inr f) ↦ absurd (calm.no_unit place.0 c l place.1 (record {
        there = there;
        free = f;
        others = λ k d lt.
            let m : Lit = get_or c k d in
            let in_c = Contains-get_or c k d lt in
            elim (lit_cases s.sizes m l (ranged m in_c) (ranged l there))
            [ inl e ↦ inl e | inr n ↦ inr (rest m in_c n) ];
      }))
    ]

-- then all that propagation gives from true literals is true
pub all_true : (s : SearchState) (assumed : List Lit) → IsSound s → IsSettled s
    → ((l : Lit) → Contains assumed l → IsTrueIn s.trail l) → (l : Lit) → Propagated s.clauses assumed l
    → IsTrueIn s.trail l
all_true s assumed h calm base _ (given l there) = base l there
all_true s assumed h calm base _ (forced c l among there rest) =
    closed s c l h calm among there (λ m in_c ne. all_true s assumed h calm base (opposite m) (rest m in_c ne))

-- and there is no contradiction
pub never_refuted : (s : SearchState) (clause : List Lit) → IsSound s → IsSettled s → IsFalseIn s.trail clause
    → FollowsByUnits s.clauses clause → ⊥
never_refuted s clause h calm f follows =
    let t : Line = record { sizes = s.sizes; steps = s.trail } in
    let base : (l : Lit) → Contains (map opposite clause) l → IsTrueIn s.trail l =
    λ l there. All-contains (IsTrueIn s.trail) (map opposite clause) l
    (All-map (IsTrueIn s.trail) opposite clause f) there in
    let all = all_true s (map opposite clause) h calm base in
    elim follows [
      | inl w ↦ not_both t w.0 h.steps (all w.0 w.1) (all (opposite w.0) w.2)
      | inr w ↦ let place = in_place s.clauses w.0 w.1 in
          calm.no_false place.0 w.0 place.1 (λ k d lt. all (opposite (get_or w.0 k d)) (w.2 k d lt))
    ]

pub refuting_if : (s mid new : SearchState) (lit lit' : Lit) (r : Option ℕ) (b : Bool) → lit' ≡ lit
    → mid ≡ open_level s lit' → PropagatesTo mid new → IfSome r (IsConflictAt new) → b ≡ is_some r → IsTrue b
    → IsRefuting s lit
refuting_if s mid new lit lit' None b same opens moves conflict is holds = cc
refuting_if s mid new lit lit' (Some k) b same opens moves conflict is holds =
    subst (IsRefuting s) same (refuting_after s mid new lit' opens moves k conflict)

pub assumed_if : (s mid new : SearchState) (lit lit' : Lit) (r : Option ℕ) (b : Bool) → lit' ≡ lit
    → mid ≡ open_level s lit' → PropagatesTo mid new → IfNone r (IsSettled new) → IsSound new → b ≡ is_some r
    → (IsTrue b → ⊥) → IsAssumed s new lit
assumed_if s mid new lit lit' None b same opens moves calm h is fails =
    subst (IsAssumed s new) same (assumed_after s mid new lit' opens moves calm h)
assumed_if s mid new lit lit' (Some k) b same opens moves calm h is fails = absurd (fails is)

-- the first i literals were made false, one after the other, with no contradiction
pub record Goes (first : SearchState) (lits : List Lit) (i : ℕ) (s : SearchState) : Type 0 where
  pub sizes : s.sizes ≡ first.sizes
  pub clauses : s.clauses ≡ first.clauses
  pub settled : IsSettled s
  pub sound : IsSound s
  pub falses : IsFalseIn s.trail (take i lits)
  pub given : AreGiven s.clauses (map opposite lits) s.trail

pub goes_first : (old new : SearchState) (lits : List Lit) (r : Option ℕ) (b : Bool) → old.starts ≡ []
    → PropagatesTo old new → IfNone r (IsSettled new) → IsSound new → b ≡ is_some r → (IsTrue b → ⊥)
    → Goes old lits 0 new
goes_first old new lits None b none moves calm h is fails = record {
  sizes = moves.sizes;
  clauses = moves.clauses;
  settled = calm;
  sound = h;
  falses = λ k d lt. absurd (omega arith);
  given = given_at_first new (map opposite lits) h (moves.starts ∙ none);
}
goes_first old new lits (Some k) b none moves calm h is fails = absurd (fails is)

pub first_refutes : (old new : SearchState) (lits : List Lit) (r : Option ℕ) (b : Bool) → old.starts ≡ []
    → PropagatesTo old new → IfSome r (IsConflictAt new) → IsSound new → b ≡ is_some r → IsTrue b
    → FollowsByUnits old.clauses lits
first_refutes old new lits None b none moves conflict h is holds = cc
first_refutes old new lits (Some k) b none moves conflict h is holds =
    subst (λ (cs : List (List Lit)). IsRefutedByUnits cs (map opposite lits)) moves.clauses
    (conflict_refutes new (map opposite lits) k conflict
    (given_at_first new (map opposite lits) h (moves.starts ∙ none)))

pub in_opposites : (xs : List Lit) (i : ℕ) (d : Lit) → i < length xs
    → Contains (map opposite xs) (opposite (get_or xs i d))
in_opposites [] i d lt = absurd (omega arith)
in_opposites (x ∷ xs) zero d lt = (zero, omega arith, refl)
in_opposites (x ∷ xs) (suc i) d lt = let r = in_opposites xs i d (omega arith) in (suc r.0, omega (arith, r.1), r.2)

pub goes_more : (first old new : SearchState) (lits : List Lit) (i : ℕ) (d l : Lit) → i < length lits
    → l ≡ get_or lits i d → Goes first lits i old → new.sizes ≡ old.sizes → new.clauses ≡ old.clauses
    → IsAssumed old new (opposite l) → Goes first lits (i + 1) new
goes_more first old new lits i d l lt at g sizes clauses a =
    let longer : take (i + 1) lits ≡ take i lits ++ l ∷ [] =
    take_more lits i d lt ∙ ap (λ (x : Lit). take i lits ++ x ∷ []) (sym at) in
    record {
      sizes = sizes ∙ g.sizes;
      clauses = clauses ∙ g.clauses;
      settled = a.settled;
      sound = a.sound;
      falses =
          subst (IsFalseIn new.trail) (sym longer)
          (All-push (λ m. IsTrueIn new.trail (opposite m)) (take i lits) l
          (λ k e below. a.keeps (opposite (get_or (take i lits) k e)) (g.falses k e below)) a.there);
      given = subst (λ (cs : List (List Lit)). AreGiven cs (map opposite lits) new.trail) (sym clauses)
          (a.given (map opposite lits)
          (subst (λ (x : Lit). Contains (map opposite lits) (opposite x)) (sym at) (in_opposites lits i d lt))
          g.given);
    }

pub goes_refutes : (first old : SearchState) (lits : List Lit) (i : ℕ) (d l : Lit) → i < length lits
    → l ≡ get_or lits i d → Goes first lits i old → IsRefuting old (opposite l) → FollowsByUnits first.clauses lits
goes_refutes first old lits i d l lt at g r =
    subst (λ (cs : List (List Lit)). IsRefutedByUnits cs (map opposite lits)) g.clauses
    (r (map opposite lits) (subst (λ (x : Lit). Contains (map opposite lits) (opposite x)) (sym at)
    (in_opposites lits i d lt)) g.given)

pub goes_on : (first s : SearchState) (lits : List Lit) (n : ℕ) → length lits ≤ n → Goes first lits n s
    → FollowsByUnits first.clauses lits → ⊥
goes_on first s lits n long g follows =
    never_refuted s lits g.sound g.settled (subst (IsFalseIn s.trail) (take_all n lits long) g.falses)
    (subst (λ (cs : List (List Lit)). IsRefutedByUnits cs (map opposite lits)) (sym g.clauses) follows)

pub goes_range : (first s : SearchState) (lits : List Lit) (i : ℕ) (d l : Lit) → i < length lits → l ≡ get_or lits i d
    → Goes first lits i s → AreInRange first.sizes lits → IsInRange s.sizes l.atom
goes_range first s lits i d l lt at g h =
    subst (λ (z : Sizes). IsInRange z l.atom) (sym g.sizes)
    (subst (λ (x : Lit). IsInRange first.sizes x.atom) (sym at) (h i d lt))

-- nothing was false when a level was opened, where none was
pub was_open : (trail : List Step) (starts : List ℕ) (c : List Lit) → starts ≡ [] → WasOpen trail starts c
was_open trail starts c none level start at f =
    absurd (let lt = get_within [] level start (subst (λ (xs : List ℕ). slice_get xs level ≡ Some start) none at) in
    omega arith)
