-- What a theory knows of a trail.
use Rattle.std.proofs.Common.{◌≡◌, ℕ, zero, suc, ◌+◌, ◌<◌, ◌≤◌, List, [], ◌∷◌, ◌++◌, length, take, get_or, Option, Some}
use Rattle.std.proofs.Common.{None, inl, inr, refl, sym, ap, ◌∙◌, subst, arith, Contains, length-take-le, length-append}
use Rattle.std.proofs.Common.{take_all}
use Rattle.std.specs.Prelude.{slice_get, IfSome, IfNone}
use Rattle.std.proofs.lemmas.Bool.{cases_lt}
use Rattle.std.proofs.lemmas.List.{take-append-le, take_more, length_push}
use Rattle.std.proofs.lemmas.Option.{slice_get-get_or}
use Rattle.gh_base.specs.declared.atom.Atom.{Atom}
use Rattle.gh_base.specs.declared.atom.Lit.{Lit}
use Rattle.gh_base.specs.declared.sizes.Sizes.{Sizes}
use Rattle.gh_base.specs.Atoms.{opposite, IsInRange}
use Rattle.gh_sat.specs.declared.trail.Step.{Step}
use Rattle.gh_sat.specs.Trail.{SearchState, IsTrueIn, IsFalseIn, IsFree, IsSound, cut, end_of, open_level}
use Rattle.gh_sat.specs.Whole.{AddsClause, PropagatesTo}
use Rattle.gh_sat.specs.Watch.{WasOpen}
use Rattle.gh_sat.specs.Learn.{IsConflictAt, add_clause}
use Rattle.gh_sat.specs.Theory.{IsRefutedBy, HasNoLit, lits_of, IsAsserted, HasNoConflict, WereConsistent, IsBeside}
use Rattle.gh_sat.specs.Theory.{PropagatesBeside}
use Rattle.gh_base.proofs.ListLemmas.{get_within, get_take, get_push, get_last}
use Rattle.gh_sat.proofs.ListLemmas.{le_same}
use Rattle.gh_sat.proofs.WholeLemmas.{take_take, take_whole, present_of, cut_none}

pub lits_take : (n : ℕ) (xs : List Step) → take n (lits_of xs) ≡ lits_of (take n xs)
lits_take zero xs = refl
lits_take (suc n) [] = refl
lits_take (suc n) (x ∷ xs) = ap (λ ls. x.lit ∷ ls) (lits_take n xs)

pub lits_long : (xs : List Step) → length (lits_of xs) ≡ length xs
lits_long [] = refl
lits_long (x ∷ xs) = ap suc (lits_long xs)

pub lits_append : (xs ys : List Step) → lits_of (xs ++ ys) ≡ lits_of xs ++ lits_of ys
lits_append [] ys = refl
lits_append (x ∷ xs) ys = ap (λ ls. x.lit ∷ ls) (lits_append xs ys)

lit_at : (xs : List Step) (k : ℕ) (l : Lit) → k < length (lits_of xs) → get_or (lits_of xs) k l ≡ l
    → (x : Step) × (slice_get xs k ≡ Some x) × (x.lit ≡ l)
lit_at [] k l h e = absurd (omega arith)
lit_at (x ∷ xs) zero l h e = (x, refl, e)
lit_at (x ∷ xs) (suc k) l h e = lit_at xs k l (omega arith) e

at_lit : (xs : List Step) (k : ℕ) (x : Step) (d : Lit) → slice_get xs k ≡ Some x → get_or (lits_of xs) k d ≡ x.lit
at_lit [] k x d e = cc
at_lit (y ∷ xs) zero x d e = let same : y ≡ x = cc in ap (λ (t : Step). t.lit) same
at_lit (y ∷ xs) (suc k) x d e = at_lit xs k x d e

pub in_lits : (xs : List Step) (l : Lit) → Contains (lits_of xs) l → IsTrueIn xs l
in_lits xs l (k, h, e) = let r = lit_at xs k l h e in (k, r.0, get_within xs k r.0 r.1, r.1, r.2)

pub lits_in : (xs : List Step) (l : Lit) → IsTrueIn xs l → Contains (lits_of xs) l
lits_in xs l s = (s.0, (let w = s.2 in omega (arith, lits_long xs)), at_lit xs s.0 s.1 l s.3 ∙ s.4)

-- an atom that stands in no asserted literal is free
pub no_lit_free : (xs : List Step) (a : Atom) → HasNoLit (lits_of xs) a → IsFree xs a
no_lit_free xs a h i x at e =
    h i x.lit (let lt = get_within xs i x at in omega (arith, lits_long xs))
    (ap (λ (l : Lit). l.atom) (at_lit xs i x x.lit at) ∙ e)

pub refuted_false : (xs : List Step) (c : List Lit) → IsRefutedBy (lits_of xs) c → IsFalseIn xs c
refuted_false xs c h k d lt = in_lits xs (opposite (get_or c k d)) (h k d lt)

pub false_refuted : (xs : List Step) (c : List Lit) → IsFalseIn xs c → IsRefutedBy (lits_of xs) c
false_refuted xs c h k d lt = lits_in xs (opposite (get_or c k d)) (h k d lt)

told_long : (a : List Lit) (trail : List Step) → (t : IsAsserted a trail) → length a ≡ t.0
told_long a trail t = ap length t.2 ∙ lits_long (take t.0 trail) ∙ length-take-le t.0 trail t.1

pub told_grow : (a : List Lit) (trail added : List Step) → IsAsserted a trail → IsAsserted a (trail ++ added)
told_grow a trail added t = (
  t.0,
  (let w = t.1 in omega (arith, length-append trail added)),
  t.2 ∙ ap lits_of (sym (take-append-le t.0 trail added t.1)),
)

take_few : (e : ℕ) (xs : List Step) → length (take e xs) ≤ e
take_few zero xs = omega arith
take_few (suc e) [] = omega arith
take_few (suc e) (x ∷ xs) = omega (arith, take_few e xs)

short : (n e : ℕ) (xs : List Step) → n ≤ length (take e xs) → n ≤ e
short n e xs h = elim (cases_lt (length xs) e) [
  | inl lt ↦ omega (arith, take_few e xs)
  | inr ge ↦ omega (arith, length-take-le e xs ge)
]

pub told_cut : (a : List Lit) (trail : List Step) (e : ℕ) → IsAsserted a trail → length a ≤ length (take e trail)
    → IsAsserted a (take e trail)
told_cut a trail e t h =
    let n = told_long a trail t in
    let le : t.0 ≤ length (take e trail) = omega arith in
    (t.0, le, t.2 ∙ ap lits_of (sym (take_take t.0 e trail (short t.0 e trail le))))

pub told_undo : (a b : List Lit) (trail : List Step) (e : ℕ) → IsAsserted a trail → length (take e trail) ≤ length a
    → b ≡ take (length (take e trail)) a → IsAsserted b (take e trail)
told_undo a b trail e t h is =
    let n = told_long a trail t in
    let m : ℕ = length (take e trail) in
    let le : length (take e trail) ≤ t.0 = omega arith in (
      length (take e trail),
      omega arith,
      is ∙ ap (take (length (take e trail))) t.2 ∙ lits_take (length (take e trail)) (take t.0 trail)
          ∙ ap lits_of (take_take (length (take e trail)) t.0 trail le
          ∙ sym (take_take (length (take e trail)) e trail (take_few e trail))),
    )

-- where all was told, a front is left
pub told_front : (a b : List Lit) (new old : List Step) (added : List Step) → a ≡ lits_of new → new ≡ old ++ added
    → b ≡ take (length old) a → IsAsserted b old
told_front a b new old added all grown is = (
  length old,
  omega arith,
  is ∙ ap (take (length old)) all ∙ lits_take (length old) new ∙ ap (λ xs. lits_of (take (length old) xs)) grown
      ∙ ap lits_of (take-append-le (length old) old added (omega arith)),
)

pub consistent_cut : (V : List Lit → Type 0) (s : SearchState) (level : ℕ) (cs : List (List Lit))
    → IsSound (record (cut s level) { clauses = cs }) → WereConsistent V s.trail s.starts
    → WereConsistent V (cut s level).trail (cut s level).starts
consistent_cut V s level cs h w l start at c v f =
    let b = h.starts l start at in
    let e : ℕ = end_of s.starts level (length s.trail) in
    let in_it = get_within (take e s.trail) start b.1 b.2 in
    w l start (get_take level s.starts l start at).1 c v
    (subst (λ x. IsFalseIn x c) (take_take start e s.trail
    (let q = short (suc start) e s.trail (omega arith) in omega arith)) f)

pub consistent_grow : (V : List Lit → Type 0) (trail added : List Step) (starts : List ℕ)
    → ((level start : ℕ) → slice_get starts level ≡ Some start → start ≤ length trail) → WereConsistent V trail starts
    → WereConsistent V (trail ++ added) starts
consistent_grow V trail added starts low w l start at c v f =
    w l start at c v (subst (λ x. IsFalseIn x c) (take-append-le start trail added (low l start at)) f)

pub consistent_open : (V : List Lit → Type 0) (s : SearchState) (lit : Lit) → IsSound (open_level s lit)
    → HasNoConflict V s.trail → WereConsistent V s.trail s.starts
    → WereConsistent V (open_level s lit).trail (open_level s lit).starts
consistent_open V s lit h calm w l start at c v f =
    let y : Step = record { lit = lit; level = length s.starts + 1; reason = None } in
    let b = h.starts l start at in
    let in_it = get_within (s.trail ++ y ∷ []) start b.1 b.2 in
    let le : start ≤ length s.trail = omega (arith, length_push s.trail y) in
    let f' : IsFalseIn (take start s.trail) c =
    subst (λ x. IsFalseIn x c) (take-append-le start s.trail (y ∷ []) le) f in
    elim (get_push s.starts (length s.trail) l start at) [
      | inl low ↦ w l start low c v f'
      | inr top ↦ calm c v (subst (λ x. IsFalseIn x c) (ap (λ n. take n s.trail) (sym top.1) ∙ take_whole s.trail) f')
    ]

pub starts_low : (s : SearchState) → IsSound s → (level start : ℕ) → slice_get s.starts level ≡ Some start
    → start < length s.trail
starts_low s h level start at = let b = h.starts level start at in get_within s.trail start b.1 b.2

any_default : {X : Type 0} (xs : List X) (i : ℕ) (d e : X) → i < length xs → get_or xs i d ≡ get_or xs i e
any_default [] i d e h = absurd (omega arith)
any_default (x ∷ xs) zero d e h = refl
any_default (x ∷ xs) (suc i) d e h = any_default xs i d e (omega arith)

-- the atom of a step stands in no step before it
pub none_before : (s : SearchState) (n : ℕ) (x : Step) → IsSound s → slice_get s.trail n ≡ Some x
    → HasNoLit (lits_of (take n s.trail)) x.lit.atom
none_before s n x h at k d lt e =
    let r = lit_at (take n s.trail) k (get_or (lits_of (take n s.trail)) k d) lt
    (any_default (lits_of (take n s.trail)) k _ d lt) in
    let o = get_take n s.trail k r.0 r.1 in
    let same = h.steps.apart k r.0 n x o.1 at (ap (λ (l : Lit). l.atom) r.2 ∙ e) in
    let lt' = o.0 in omega arith

-- telling a trail step by step
pub told_init : (a : List Lit) (trail steps : List Step) (place : ℕ) → IsAsserted a trail → steps ≡ trail
    → place ≡ length a
    → (place ≤ length steps) × (a ≡ lits_of (take place steps))
told_init a trail steps place t e p =
    let n : place ≡ t.0 = p ∙ told_long a trail t in
    let long : length steps ≡ length trail = ap length e in
    let le = t.1 in
    (omega arith, t.2 ∙ ap (λ k. lits_of (take k trail)) (sym n) ∙ ap (λ xs. lits_of (take place xs)) (sym e))

pub told_next : (a b : List Lit) (steps : List Step) (place : ℕ) (d : Step) → place < length steps
    → a ≡ lits_of (take place steps) → b ≡ a ++ (get_or steps place d).lit ∷ [] → b ≡ lits_of (take (place + 1) steps)
told_next a b steps place d h e f =
    f ∙ ap (λ ls. ls ++ (get_or steps place d).lit ∷ []) e
    ∙ sym (lits_append (take place steps) (get_or steps place d ∷ [])) ∙ ap lits_of (sym (take_more steps place d h))

pub told_all : (a : List Lit) (trail steps : List Step) (place : ℕ) → steps ≡ trail → length steps ≤ place
    → a ≡ lits_of (take place steps) → a ≡ lits_of trail
told_all a trail steps place e h f = f ∙ ap lits_of (take_all place steps h ∙ e)

pub free_at : (s : SearchState) (a : List Lit) (steps : List Step) (place : ℕ) (d : Step) → IsSound s → steps ≡ s.trail
    → place < length steps → a ≡ lits_of (take place steps) → HasNoLit a (get_or steps place d).lit.atom
free_at s a steps place d h e lt f =
    let lt' : place < length s.trail = subst (λ (t : List Step). place < length t) e lt in
    let at = slice_get-get_or s.trail place d lt' in
    subst (λ (t : List Step). HasNoLit a (get_or t place d).lit.atom) (sym e)
    (subst (λ (ls : List Lit). HasNoLit ls (get_or s.trail place d).lit.atom)
    (sym (f ∙ ap (λ xs. lits_of (take place xs)) e)) (none_before s place (get_or s.trail place d) h at))

pub range_at : (s : SearchState) (steps : List Step) (place : ℕ) (d : Step) → IsSound s → steps ≡ s.trail
    → place < length steps → IsInRange s.sizes (get_or steps place d).lit.atom
range_at s steps place d h e lt =
    let lt' : place < length s.trail = subst (λ (t : List Step). place < length t) e lt in
    subst (λ (t : List Step). IsInRange s.sizes (get_or t place d).lit.atom) (sym e)
    (h.steps.range place (get_or s.trail place d) (slice_get-get_or s.trail place d lt'))

-- a false clause of the theory is a conflict where it is added
pub conflict_added : (s : SearchState) (c : List Lit) → IsSound s → IsFalseIn s.trail c → WasOpen s.trail s.starts c
    → IsConflictAt (add_clause s c) (length s.clauses)
conflict_added s c h f was = record {
  clause = c;
  at = get_last s.clauses c;
  is_false = f;
  present = λ pos. present_of s c h f was pos;
}

-- a level is opened where the theory has no conflict
pub beside_open : (V : Sizes → List Lit → Type 0) (a : List Lit) (z : Sizes) (s new : SearchState) (lit : Lit)
    → IsBeside V a z s → HasNoConflict (V s.sizes) s.trail → new ≡ open_level s lit → IsSound new → IsBeside V a z new
beside_open V a z s new lit b calm opens h =
    let y : Step = record { lit = lit; level = length s.starts + 1; reason = None } in
    let sound : IsSound (open_level s lit) = subst IsSound opens h in
    subst (IsBeside V a z) (sym opens)
    (told_grow a s.trail (y ∷ []) b.0, b.1, consistent_open (V s.sizes) s lit sound calm b.2)

-- after a cut, where the theory knows no more than what is left
pub beside_cut : (V : Sizes → List Lit → Type 0) (a : List Lit) (z : Sizes) (s new : SearchState) (level : ℕ)
    (cs : List (List Lit)) → IsBeside V a z s → new ≡ record (cut s level) { clauses = cs } → IsSound new
    → length a ≤ length new.trail → IsBeside V a z new
beside_cut V a z s new level cs b is h le =
    let h' : IsSound (record (cut s level) { clauses = cs }) = subst IsSound is h in
    let le' : length a ≤ length (cut s level).trail = subst (λ (t : SearchState). length a ≤ length t.trail) is le in
    subst (IsBeside V a z) (sym is) (
      told_cut a s.trail (end_of s.starts level (length s.trail)) b.0 le',
      b.1,
      consistent_cut (V s.sizes) s level cs h' b.2,
    )

-- or it forgets the rest
pub beside_undo : (V : Sizes → List Lit → Type 0) (a a' : List Lit) (z z' : Sizes) (s new : SearchState) (level : ℕ)
    (cs : List (List Lit)) → IsBeside V a z s → new ≡ record (cut s level) { clauses = cs } → IsSound new
    → length new.trail ≤ length a → a' ≡ take (length new.trail) a → z' ≡ z → IsBeside V a' z' new
beside_undo V a a' z z' s new level cs b is h le made same =
    let h' : IsSound (record (cut s level) { clauses = cs }) = subst IsSound is h in
    let le' : length (cut s level).trail ≤ length a = subst (λ (t : SearchState). length t.trail ≤ length a) is le in
    let made' : a' ≡ take (length (cut s level).trail) a =
    subst (λ (t : SearchState). a' ≡ take (length t.trail) a) is made in
    subst (IsBeside V a' z') (sym is) (
      told_undo a a' s.trail (end_of s.starts level (length s.trail)) b.0 le' made',
      same ∙ b.1,
      consistent_cut (V s.sizes) s level cs h' b.2,
    )

-- an added clause comes with a cut
pub added_cut : (s new : SearchState) (c : List Lit) → AddsClause s c new
    → (level : ℕ) × (new ≡ record (cut s level) { clauses = s.clauses ++ c ∷ [] })
added_cut s new c (inl w) = (w.0, w.3)
added_cut s new c (inr w) = (
  length s.starts,
  w.1 ∙ ap (λ (t : SearchState). record t { clauses = s.clauses ++ c ∷ [] })
      (cut_none s (length s.starts) (le_same (length s.starts))),
)

-- propagation keeps it
pub beside_grow : (V : Sizes → List Lit → Type 0) (a : List Lit) (z : Sizes) (s new : SearchState) → IsSound s
    → IsBeside V a z s → PropagatesTo s new → IsBeside V a z new
beside_grow V a z s new h b p =
    let added = p.grows.0 in
    let low : (level start : ℕ) → slice_get s.starts level ≡ Some start → start ≤ length s.trail =
    λ level start at. let w = starts_low s h level start at in omega arith in
    let told : IsAsserted a new.trail = subst (IsAsserted a) (sym p.grows.1) (told_grow a s.trail added b.0) in
    let one : WereConsistent (V s.sizes) new.trail s.starts =
    subst (λ t. WereConsistent (V s.sizes) t s.starts) (sym p.grows.1)
    (consistent_grow (V s.sizes) s.trail added s.starts low b.2) in (
      told,
      b.1 ∙ sym p.sizes,
      subst (λ x. WereConsistent (V new.sizes) new.trail x) (sym p.starts)
          (subst (λ w. WereConsistent (V w) new.trail s.starts) (sym p.sizes) one),
    )

-- what the answer says of the clauses
pub answered : (V : Sizes → List Lit → Type 0) (s mid new : SearchState) (o : Option ℕ) → PropagatesTo s mid
    → IfSome o (λ k. k ≡ length mid.clauses) → IfSome o (λ _. (c : List Lit) × V mid.sizes c × (new ≡ add_clause mid c))
    → IfNone o (new ≡ mid)
    → PropagatesBeside (V s.sizes) s new o
answered V s mid new None p number added same =
    subst (λ (t : SearchState). PropagatesBeside (V s.sizes) s t None) (sym same)
    (record { sizes = p.sizes; starts = p.starts; grows = p.grows; clauses = inl p.clauses })
answered V s mid new (Some k) p number added same =
    subst (λ (t : SearchState). PropagatesBeside (V s.sizes) s t (Some k)) (sym added.2) (record {
      sizes = p.sizes;
      starts = p.starts;
      grows = p.grows;
      clauses =
          inr (
            added.0,
            subst (λ z. V z added.0) p.sizes added.1,
            ap (λ cs. cs ++ added.0 ∷ []) p.clauses,
            ap Some
                (number ∙ ap length p.clauses),
          );
    })

pub moved : (V : Sizes → List Lit → Type 0) (s mid : SearchState) (o : Option ℕ) → PropagatesTo s mid
    → PropagatesBeside (V s.sizes) s mid o
moved V s mid o p = record { sizes = p.sizes; starts = p.starts; grows = p.grows; clauses = inl p.clauses }

-- the trail is that of the propagation
pub same_trail : (V : Sizes → List Lit → Type 0) (mid new : SearchState) (o : Option ℕ)
    → IfSome o (λ _. (c : List Lit) × V mid.sizes c × (new ≡ add_clause mid c)) → IfNone o (new ≡ mid)
    → new.trail ≡ mid.trail
same_trail V mid new None added same = ap (λ (t : SearchState). t.trail) same
same_trail V mid new (Some k) added same = ap (λ (t : SearchState). t.trail) added.2

pub beside_answer : (V : Sizes → List Lit → Type 0) (a : List Lit) (z : Sizes) (mid new : SearchState) (o : Option ℕ)
    → IsBeside V a z mid → IfSome o (λ _. (c : List Lit) × V mid.sizes c × (new ≡ add_clause mid c))
    → IfNone o (new ≡ mid) → IsBeside V a z new
beside_answer V a z mid new None b added same = subst (IsBeside V a z) (sym same) b
beside_answer V a z mid new (Some k) b added same = subst (IsBeside V a z) (sym added.2) b

-- all was told
pub beside_told : (V : Sizes → List Lit → Type 0) (a a' : List Lit) (z z' : Sizes) (s : SearchState) → IsBeside V a z s
    → a' ≡ lits_of s.trail → z' ≡ s.sizes → IsBeside V a' z' s
beside_told V a a' z z' s b told same =
    ((length s.trail, le_same (length s.trail), told ∙ ap lits_of (sym (take_whole s.trail))), same, b.2)

-- a propagation taken back
pub taken_back : (s mid new : SearchState) (place : ℕ) → PropagatesTo s mid → place ≡ length s.trail
    → new ≡ record mid { trail = take place mid.trail } → new ≡ s
taken_back s mid new place p e is =
    let trail : take place mid.trail ≡ s.trail =
    ap (λ n. take n mid.trail) e ∙ ap (take (length s.trail)) p.grows.1
    ∙ take-append-le (length s.trail) s.trail p.grows.0 (le_same (length s.trail)) ∙ take_whole s.trail in
    is ∙ (λ i. record { sizes = p.sizes i; clauses = p.clauses i; trail = trail i; starts = p.starts i })

pub grown_long : (s mid : SearchState) → PropagatesTo s mid → length s.trail ≤ length mid.trail
grown_long s mid p = let e = ap length p.grows.1 in omega (arith, length-append s.trail p.grows.0)

-- the theory taken back
pub told_back : (V : Sizes → List Lit → Type 0) (a a' b : List Lit) (z z' w : Sizes) (s mid new : SearchState)
    → IsBeside V a z s → PropagatesTo s mid → new ≡ s → b ≡ lits_of mid.trail → w ≡ mid.sizes
    → a' ≡ take (length s.trail) b → z' ≡ w → IsBeside V a' z' new
told_back V a a' b z z' w s mid new beside p back told same less same' =
    subst (IsBeside V a' z') (sym back)
    (told_front b a' mid.trail s.trail p.grows.0 told p.grows.1 less, same' ∙ same ∙ p.sizes, beside.2)

-- nor is a clause of the theory false after the answer
pub calm_answer : (V : Sizes → List Lit → Type 0) (mid new : SearchState) (o : Option ℕ)
    → IfNone o (HasNoConflict (V mid.sizes) mid.trail) → IfNone o (new ≡ mid)
    → IfNone o (HasNoConflict (V new.sizes) new.trail)
calm_answer V mid new None none same = subst (λ (t : SearchState). HasNoConflict (V t.sizes) t.trail) (sym same) none
calm_answer V mid new (Some k) none same = tt

-- each level began before the trail that is left
pub present_before : (s mid new : SearchState) (before : List Step) → IsSound s → PropagatesTo s mid → new ≡ mid
    → before ≡ s.trail → (level start : ℕ) → slice_get new.starts level ≡ Some start → start < length before
present_before s mid new before h p back e level start at =
    let starts : new.starts ≡ s.starts = ap (λ (t : SearchState). t.starts) back ∙ p.starts in
    let low = starts_low s h level start (ap (λ xs. slice_get xs level) (sym starts) ∙ at) in
    let long = ap length e in
    omega arith

none_open : (V : Sizes → List Lit → Type 0) {z : Sizes} → WereConsistent (V z) [] []
none_open V level start at c v f = absurd (let e : None ≡ Some start = at in cc)

-- what holds before anything is asserted
pub beside_nothing : (V : Sizes → List Lit → Type 0) (a : List Lit) (z sizes : Sizes) (cs : List (List Lit))
    (s : SearchState) → s ≡ (record { sizes = sizes; clauses = cs; trail = []; starts = [] }) → a ≡ [] → z ≡ sizes
    → IsAsserted a s.trail × (z ≡ s.sizes) × WereConsistent (V s.sizes) s.trail s.starts
beside_nothing V a z sizes cs s is none same =
    subst (λ (t : SearchState). IsAsserted a t.trail × (z ≡ t.sizes) × WereConsistent (V t.sizes) t.trail t.starts)
    (sym is)
    ((0, omega arith, none), same, none_open V)
