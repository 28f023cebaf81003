-- What stays when a literal more is asserted, and when the last ones are taken back.
use Rattle.std.proofs.Common.{◌≡◌, ◌≢◌, ◌⊎◌, inl, inr, ℕ, zero, suc, ◌<◌, ◌≤◌, false, eqb, map, List, [], ◌∷◌, ◌++◌}
use Rattle.std.proofs.Common.{All, length, get_or, take, Option, Some, None, refl, sym, ap, ◌∙◌, subst, arith}
use Rattle.std.proofs.Common.{length-append}
use Rattle.std.specs.Prelude.{slice_get}
use Rattle.std.proofs.lemmas.Bool.{cases_lt, ne_eqb, eqb-true}
use Rattle.std.proofs.lemmas.Option.{slice_get-get_or, same_Some}
use Rattle.std.proofs.lemmas.Map.Steps.{length-le_from_distinct_below}
use Rattle.std.proofs.lemmas.Map.Keys.{IsDistinct-cons, IsDistinct-from_apart}
use Rattle.std.proofs.lemmas.List.Folds.{Any-from_list_any}
use Rattle.std.specs.List.{IsDistinct}
use Rattle.std.proofs.lemmas.List.{length-map}
use Rattle.std.proofs.lemmas.List.Elements.{All-contains, All-map, recursion_from_All}
use Rattle.gh_base.specs.declared.atom.Lit.{Lit}
use Rattle.gh_base.specs.declared.sizes.Sizes.{Sizes}
use Rattle.gh_base.specs.Atoms.{AreInRange, count_of, number_of}
use Rattle.gh_base.proofs.NumberLemmas.{apart as atoms_apart, number_below}
use Rattle.gh_cc.specs.declared.partition.Link.{Link}
use Rattle.gh_cc.specs.declared.signatures.SignatureEntry.{SignatureEntry}
use Rattle.gh_cc.specs.declared.clash.Clash.{Clash}
use Rattle.gh_cc.specs.declared.clash.Clash.TheVariants.{Unequal, Opposite}
use Rattle.gh_cc.specs.declared.classes.Stage.{Stage}
use Rattle.gh_cc.specs.declared.classes.ClashAt.{ClashAt}
use Rattle.gh_cc.specs.Asserted.{IsUnasserted}
use Rattle.gh_cc.specs.Kept.{normal, reps, IsClash, Core, first_clash, NoClashBefore, IsStage}
use Rattle.gh_base.proofs.ListLemmas.{get_push}
use Rattle.gh_cc.proofs.PartitionLemmas.{rep_later, rep_front, rep_own, slice_get-contains}
use Rattle.gh_cc.proofs.FilingLemmas.{normal_coarser}

pub take_take : {X : Type 0} (k m : ℕ) (xs : List X) → k ≤ m → take k (take m xs) ≡ take k xs
take_take zero m xs h = refl
take_take (suc k) zero xs h = absurd (omega arith)
take_take (suc k) (suc m) [] h = refl
take_take (suc k) (suc m) (x ∷ xs) h = ap (λ ys. x ∷ ys) (take_take k m xs (omega arith))

-- a place of a list that one more element follows
pub get_or_push : {X : Type 0} (xs : List X) (x d : X) (k : ℕ) → k ≤ length xs
    → get_or (xs ++ x ∷ []) k d ≡ get_or xs k x
get_or_push [] x d zero h = refl
get_or_push [] x d (suc k) h = absurd (omega arith)
get_or_push (y ∷ xs) x d zero h = refl
get_or_push (y ∷ xs) x d (suc k) h = get_or_push xs x d k (omega arith)

pub get_or_past : {X : Type 0} (xs : List X) (d : X) (k : ℕ) → length xs ≤ k → get_or xs k d ≡ d
get_or_past [] d k h = refl
get_or_past (x ∷ xs) d zero h = absurd (omega arith)
get_or_past (x ∷ xs) d (suc k) h = get_or_past xs d k (omega arith)

pub get_or_front_of : {X : Type 0} (m : ℕ) (xs : List X) (d e : X) (k : ℕ) → k < m → m ≤ length xs
    → get_or (take m xs) k d ≡ get_or xs k e
get_or_front_of zero xs d e k h l = absurd (omega arith)
get_or_front_of (suc m) [] d e k h l = absurd (omega arith)
get_or_front_of (suc m) (x ∷ xs) d e zero h l = refl
get_or_front_of (suc m) (x ∷ xs) d e (suc k) h l = get_or_front_of m xs d e k (omega arith) (omega arith)

-- a stage rests on the first literals, links and entries alone
pub stage_keeps : (c : Core) (lits : List Lit) (stages : List Stage) (links : List Link) (entries : List SignatureEntry)
    (clash : Option ClashAt) (k : ℕ) (t : Stage)
    → take k lits ≡ take k c.lits → take t.depth links ≡ take t.depth c.links
    → take t.entries entries ≡ take t.entries c.entries → t.depth ≤ length links → t.entries ≤ length entries
    → ((f : ClashAt) → clash ≡ Some f → f.place < k → c.clash ≡ Some f)
    → ((f : ClashAt) → c.clash ≡ Some f → f.place < k → clash ≡ Some f)
    → IsStage c k t
    → IsStage (record {
      sizes = c.sizes;
      lits = lits;
      stages = stages;
      links = links;
      entries = entries;
      clash = clash;
    }) k t
stage_keeps c lits stages links entries clash k t same_lits same_links same_entries depth count was is s =
    let none : NoClashBefore clash k → NoClashBefore c.clash k = λ n f at.
    elim (cases_lt f.place k) as (λ _. k ≤ f.place) [ inl lt ↦ n f (is f at lt) | inr ge ↦ ge ]
    in record {
      depth = depth;
      count = count;
      state = rw (same_lits, same_links, same_entries) s.state;
      filed = λ n. rw (same_lits, same_links, same_entries) (s.filed (none n));
      clash = λ f at lt. rw (same_links, same_lits) (s.clash f (was f at lt) lt);
    }

pub reps_later : (links more : List Link) (a b : ℕ) → reps links a ≡ reps links b
    → reps (links ++ more) a ≡ reps (links ++ more) b
reps_later links more a b e =
    let d = length links in
    rep_later (links ++ more) d (length (links ++ more)) a b (omega (arith, length-append links more))
    (rep_front links more d a (omega arith) ∙ e ∙ sym (rep_front links more d b (omega arith)))

pub reps_forget : (links more : List Link) (t : ℕ) → reps (links ++ more) (reps links t) ≡ reps (links ++ more) t
reps_forget links more t = reps_later links more (reps links t) t (rep_own links (length links) t)

-- more literals and links keep a clash
pub clash_keeps : (links more : List Link) (lits lits' : List Lit) (c : Clash)
    → ((i : ℕ) (l : Lit) → slice_get lits i ≡ Some l → slice_get lits' i ≡ Some l)
    → IsClash (reps links) lits c → IsClash (reps (links ++ more)) lits' c
clash_keeps links more lits lits' (Unequal place) stay w =
    (w.0, w.1, stay place _ w.2, reps_later links more w.0.0 w.1.0 w.3)
clash_keeps links more lits lits' (Opposite first second) stay w =
    let r = reps links in
    let now = reps (links ++ more) in (
      w.0,
      w.1,
      stay first w.0 w.2,
      stay second w.1 w.3,
      w.4,
      sym (normal_coarser r now (reps_forget links more) w.0.atom) ∙ ap (normal now) w.5
          ∙ normal_coarser r now (reps_forget links more) w.1.atom,
      w.6,
    )

-- literals of different atoms in range are at most as many as there are atoms
numbers_apart : (s : Sizes) (lits : List Lit) → AreInRange s lits
    → ((i j : ℕ) (l k : Lit) → slice_get lits i ≡ Some l → slice_get lits j ≡ Some k → l.atom ≡ k.atom → i ≡ j)
    → IsDistinct eqb (map (λ (l : Lit). number_of s l.atom) lits)
numbers_apart s [] all apart = IsDistinct-from_apart eqb [] (λ i j d h k. absurd (omega arith))
numbers_apart s (x ∷ xs) all apart =
    let f : Lit → ℕ = λ l. number_of s l.atom in
    let tail : AreInRange s xs = λ k d h. all (suc k) d (omega arith) in
    IsDistinct-cons eqb (f x) (map f xs)
    (recursion_from_All (λ y. eqb (f x) y ≡ false) (map f xs) (All-map (λ y. eqb (f x) y ≡ false) f xs (λ k d h.
    let y = get_or xs k d in
    let at : slice_get xs k ≡ Some y = slice_get-get_or xs k d h in
    ne_eqb (f x) (f y) (λ e.
    let same = atoms_apart s x.atom y.atom (all 0 x (omega arith)) (tail k d h) e in
    let none : 0 ≡ suc k = apart 0 (suc k) x y refl at same in absurd (omega arith)))))
    (numbers_apart s xs tail (λ i j l k at at' e. let h : suc i ≡ suc j = apart (suc i) (suc j) l k at at' e in
    omega arith))

pub few_lits : (s : Sizes) (lits : List Lit) → AreInRange s lits
    → ((i j : ℕ) (l k : Lit) → slice_get lits i ≡ Some l → slice_get lits j ≡ Some k → l.atom ≡ k.atom → i ≡ j)
    → length lits ≤ count_of s
few_lits s lits all apart =
    let f : Lit → ℕ = λ l. number_of s l.atom in
    let few = length-le_from_distinct_below (map f lits) (count_of s) (numbers_apart s lits all apart) (λ q there.
    let w = Any-from_list_any (eqb q) (map f lits) there in
    let below : All (λ n. n < count_of s) (map f lits) =
    All-map (λ n. n < count_of s) f lits (λ k d h. number_below s (get_or lits k d).atom (all k d h)) in
    let is : q ≡ w.1 = eqb-true q w.1 w.4 in
    let here : w.1 < count_of s = subst (λ n. n < count_of s) w.3 (below w.0 w.1 w.2) in
    rw is here) in
    omega (arith, few, length-map lits f)

-- a new atom keeps the atoms apart
pub apart_push : (lits : List Lit) (x : Lit) → IsUnasserted lits x.atom
    → ((i j : ℕ) (l k : Lit) → slice_get lits i ≡ Some l → slice_get lits j ≡ Some k → l.atom ≡ k.atom → i ≡ j)
    → (i j : ℕ) (l k : Lit) → slice_get (lits ++ x ∷ []) i ≡ Some l → slice_get (lits ++ x ∷ []) j ≡ Some k
    → l.atom ≡ k.atom → i ≡ j
apart_push lits x free apart i j l k at at' e =
    let other : (n : ℕ) (y : Lit) → slice_get lits n ≡ Some y → y.atom ≢ x.atom =
    λ n y there. All-contains (λ (z : Lit). z.atom ≢ x.atom) lits y free (slice_get-contains lits n y there) in
    elim (get_push lits x i l at) as (λ _. i ≡ j) [
      | inl old ↦ elim (get_push lits x j k at') as (λ _. i ≡ j) [
        | inl old' ↦ apart i j l k old old' e
        | inr new' ↦ absurd (other i l old (e ∙ ap (λ (y : Lit). y.atom) (sym new'.1)))
      ]
      | inr new ↦ elim (get_push lits x j k at') as (λ _. i ≡ j) [
        | inl old' ↦ absurd (other j k old' (sym e ∙ ap (λ (y : Lit). y.atom) (sym new.1)))
        | inr new' ↦ new.0 ∙ sym new'.0
      ]
    ]

abbrev pub now_of : Core → Stage
now_of c = record { depth = length c.links; entries = length c.entries }

-- the clash that stands, if any, was there or is new
pub clash_cases : (o : Option ClashAt) (place : ℕ) (found : Option Clash) (f : ClashAt)
    → first_clash o place found ≡ Some f
    → (o ≡ Some f) ⊎ ((o ≡ None) × (found ≡ Some f.clash) × (f.place ≡ place))
clash_cases (Some g) place found f e = inl e
clash_cases None place None f e = cc
clash_cases None place (Some c) f e =
    let is : record { place = place; clash = c } ≡ f = same_Some _ _ e in
    inr (refl, ap (λ (g : ClashAt). Some g.clash) is, ap (λ (g : ClashAt). g.place) (sym is))

pub clash_stays : (o : Option ClashAt) (place : ℕ) (found : Option Clash) (f : ClashAt) → o ≡ Some f
    → first_clash o place found ≡ Some f
clash_stays (Some g) place found f e = e
clash_stays None place found f e = cc

pub no_clash : (o : Option ClashAt) (place : ℕ) (found : Option Clash) (n : ℕ)
    → NoClashBefore (first_clash o place found) n → ((f : ClashAt) → o ≡ Some f → f.place < n) → place < n
    → (o ≡ None) × (found ≡ None)
no_clash (Some g) place found n none old new = absurd (let a = none g refl in let b = old g refl in omega arith)
no_clash None place (Some c) n none old new =
    absurd (let a : n ≤ place = none (record { place = place; clash = c }) refl in omega arith)
no_clash None place None n none old new = (refl, refl)
