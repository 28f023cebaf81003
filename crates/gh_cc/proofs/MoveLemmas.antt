-- Literals by the terms that they mention.
use Rattle.std.proofs.Common.{◌≡◌, ◌⊎◌, inl, inr, ℕ, zero, suc, ◌+◌, ◌-◌, ◌*◌, ◌/◌, ◌<◌, Bool, true, false, get_or}
use Rattle.std.proofs.Common.{List, [], ◌∷◌, ◌++◌, length, take, Option, Some, None, refl, sym, ap, ◌∙◌, subst, arith}
use Rattle.std.specs.Prelude.{slice_get}
use Rattle.std.proofs.lemmas.Bool.{cases_lt}
use Rattle.std.proofs.lemmas.Option.{same_Some, none-some, get_or_from_slice_get, slice_get-get_or}
use Rattle.std.proofs.lemmas.List.{length_push}
use Rattle.std.proofs.lemmas.List.Elements.{All-contains}
use Rattle.gh_base.specs.declared.atom.Atom.TheVariants.{Eq, Btwn, Hop, Alloc, Def}
use Rattle.gh_base.specs.declared.sizes.Sizes.{Sizes}
use Rattle.gh_base.specs.Atoms.{IsInRange, AreInRange, number_of}
use Rattle.gh_cc.specs.declared.partition.Link.{Link}
use Rattle.gh_cc.specs.declared.signatures.SignatureEntry.{SignatureEntry}
use Rattle.gh_cc.specs.Partitions.{rep, no_link}
use Rattle.gh_cc.specs.Signatures.{Filed, find_lit}
use Rattle.gh_cc.specs.Asserted.{equality}
use Rattle.gh_cc.specs.Kept.{normal, reps, HasSign, IsFiledAs, IsFiled, AllFiled, Grows}
use Rattle.gh_base.proofs.ListLemmas.{get_last, get_take, take_get}
use Rattle.gh_cc.proofs.PartitionLemmas.{relabel_cases, rep_front, rep_more, slice_get-contains}
use Rattle.gh_cc.proofs.FilingLemmas.{sign_along, grows_find}
use Rattle.gh_cc.proofs.TakingLemmas.{last_of, last_at, ends_joined}
use Rattle.gh_base.specs.declared.atom.Term.{Term}
use Rattle.gh_base.specs.declared.atom.Atom.{Atom}
use Rattle.gh_base.specs.declared.atom.Lit.{Lit}
use Rattle.gh_cc.specs.Uses.{all_mentions, first_term, second_term, third_term, Mentions, IsMoved, AreEnds}

pub mentions_long : (lits : List Lit) → length (all_mentions lits) ≡ 3 * length lits
mentions_long [] = refl
mentions_long (l ∷ ls) = omega (arith, mentions_long ls)

pub mentions_push : (lits : List Lit) (x : Lit)
    → all_mentions (lits ++ x ∷ [])
    ≡ all_mentions lits ++ first_term x.atom ∷ second_term x.atom ∷ third_term x.atom ∷ []
mentions_push [] x = refl
mentions_push (l ∷ ls) x =
    ap (λ (ts : List (Option Term)). first_term l.atom ∷ second_term l.atom ∷ third_term l.atom ∷ ts)
    (mentions_push ls x)

take_none : {X : Type 0} (n : ℕ) → (let none : List X = [] in take n none ≡ none)
take_none zero = refl
take_none (suc n) = refl

pub mentions_take : (k : ℕ) (lits : List Lit) → take (3 * k) (all_mentions lits) ≡ all_mentions (take k lits)
mentions_take zero lits = refl
mentions_take (suc k) [] = take_none (3 * suc k)
mentions_take (suc k) (l ∷ ls) =
    let n : 3 * suc k ≡ suc (suc (suc (3 * k))) = omega arith in
    ap (λ m. take m (all_mentions (l ∷ ls))) n
    ∙ ap (λ (ts : List (Option Term)). first_term l.atom ∷ second_term l.atom ∷ third_term l.atom ∷ ts)
    (mentions_take k ls)

pub mention_at : (lits : List Lit) (i : ℕ) (l : Lit) (t : Term) → slice_get lits i ≡ Some l → Mentions l.atom t
    → (j : ℕ) × (j / 3 ≡ i) × (slice_get (all_mentions lits) j ≡ Some (Some t))
mention_at [] i l t at m = cc
mention_at (x ∷ xs) zero l t at m =
    let is : x ≡ l = cc in
    elim m as (λ _. (j : ℕ) × (j / 3 ≡ 0) × (slice_get (all_mentions (x ∷ xs)) j ≡ Some (Some t))) [
      | inl e ↦ (0, refl, ap (λ (y : Lit). Some (first_term y.atom)) is ∙ ap (λ (o : Option Term). Some o) e)
      | inr r ↦ elim r as (λ _. (j : ℕ) × (j / 3 ≡ 0) × (slice_get (all_mentions (x ∷ xs)) j ≡ Some (Some t))) [
        | inl e ↦ (1, refl, ap (λ (y : Lit). Some (second_term y.atom)) is ∙ ap (λ (o : Option Term). Some o) e)
        | inr e ↦ (2, refl, ap (λ (y : Lit). Some (third_term y.atom)) is ∙ ap (λ (o : Option Term). Some o) e)
      ]
    ]
mention_at (x ∷ xs) (suc i) l t at m =
    let w = mention_at xs i l t at m in
    let place = w.1 in
    (suc (suc (suc w.0)), omega arith, w.2)

below : (s : Sizes) (x t : Term) → x.0 < s.terms → Some x ≡ Some t → t.0 < s.terms
below s x t h e = subst (λ (y : Term). y.0 < s.terms) (same_Some x t e) h

-- a term of an atom in range is one of the terms
pub mention_range : (s : Sizes) (a : Atom) (t : Term) → IsInRange s a → Mentions a t → t.0 < s.terms
mention_range s (Eq a b) t h (inl e) = below s a t (omega (arith, h.0, h.1)) e
mention_range s (Eq a b) t h (inr (inl e)) = below s b t h.1 e
mention_range s (Eq a b) t h (inr (inr e)) = absurd (none-some t e)
mention_range s (Btwn v x y z) t h (inl e) = below s x t h.1 e
mention_range s (Btwn v x y z) t h (inr (inl e)) = below s y t h.2 e
mention_range s (Btwn v x y z) t h (inr (inr e)) = below s z t h.3 e
mention_range s (Hop v x y) t h (inl e) = below s x t h.1 e
mention_range s (Hop v x y) t h (inr (inl e)) = below s y t h.2 e
mention_range s (Hop v x y) t h (inr (inr e)) = absurd (none-some t e)
mention_range s (Alloc v x) t h (inl e) = below s x t h.1 e
mention_range s (Alloc v x) t h (inr (inl e)) = absurd (none-some t e)
mention_range s (Alloc v x) t h (inr (inr e)) = absurd (none-some t e)
mention_range s (Def k) t h (inl e) = absurd (none-some t e)
mention_range s (Def k) t h (inr (inl e)) = absurd (none-some t e)
mention_range s (Def k) t h (inr (inr e)) = absurd (none-some t e)

place_mention : (P Q : Term → Type 0) → ((t : Term) → P t ⊎ Q t) → (o : Option Term) → ((t : Term) × (o ≡ Some t) × P t)
    ⊎ ((t : Term) → o ≡ Some t → Q t)
place_mention P Q tell None = inr (λ t e. absurd (none-some t e))
place_mention P Q tell (Some x) =
    elim (tell x) as (λ _. ((t : Term) × (Some x ≡ Some t) × P t) ⊎ ((t : Term) → Some x ≡ Some t → Q t)) [
      | inl holds ↦ inl (x, refl, holds)
      | inr other ↦ inr (λ t e. subst Q (same_Some x t e) other)
    ]

-- what holds of no term of an atom, or of one
pub some_mention : (P Q : Term → Type 0) → ((t : Term) → P t ⊎ Q t) → (a : Atom) → ((t : Term) × Mentions a t × P t)
    ⊎ ((t : Term) → Mentions a t → Q t)
some_mention P Q tell a =
    elim (place_mention P Q tell (first_term a)) as (λ _. ((t : Term) × Mentions a t × P t)
    ⊎ ((t : Term) → Mentions a t → Q t)) [
      | inl w ↦ inl (w.0, inl w.1, w.2)
      | inr none ↦
          elim (place_mention P Q tell (second_term a)) as (λ _. ((t : Term) × Mentions a t × P t)
          ⊎ ((t : Term) → Mentions a t → Q t)) [
            | inl w ↦ inl (w.0, inr (inl w.1), w.2)
            | inr none' ↦
                elim (place_mention P Q tell (third_term a)) as (λ _. ((t : Term) × Mentions a t × P t)
                ⊎ ((t : Term) → Mentions a t → Q t)) [
                  | inl w ↦ inl (w.0, inr (inr w.1), w.2)
                  | inr none'' ↦
                      inr (λ t m. elim m as (λ _. Q t) [
                        | inl e ↦ none t e
                        | inr r ↦
                            elim r as (λ _. Q t) [ inl e ↦ none' t e | inr e ↦ none'' t e ]
                      ])
                ]
          ]
    ]

-- where the representatives of an atom's terms stay, what is filed stays filed
pub unmoved_filed : (s : Sizes) (r more : ℕ → ℕ) (lits lits' : List Lit) (entries entries' : List SignatureEntry)
    (a : Atom)
    (sign : Bool) → ((t : Term) → Mentions a t → more t.0 ≡ r t.0)
    → ((i : ℕ) (l : Lit) → slice_get lits i ≡ Some l → slice_get lits' i ≡ Some l)
    → ((m k : ℕ) → find_lit entries m ≡ Some k → find_lit entries' m ≡ Some k)
    → IsFiledAs s r lits entries a sign → IsFiledAs s more lits' entries' a sign
unmoved_filed s r more lits lits' entries entries' (Eq a b) true same stay find h = same a (inl refl) ∙ h
    ∙ sym (same b (inr (inl refl)))
unmoved_filed s r more lits lits' entries entries' (Eq a b) false same stay find h =
    λ e. h (sym (same a (inl refl)) ∙ e ∙ same b (inr (inl refl)))
unmoved_filed s r more lits lits' entries entries' (Btwn v x y z) sign same stay find h =
    let n : normal r (Btwn v x y z) ≡ normal more (Btwn v x y z) =
    λ i. Btwn v (record { 0 = sym (same x (inl refl)) i }) (record { 0 = sym (same y (inr (inl refl))) i })
    (record { 0 = sym (same z (inr (inr refl))) i }) in
    subst (λ (a : Atom). HasSign lits' entries' (number_of s a) sign) n
    (sign_along lits lits' entries entries' _ sign stay find h)
unmoved_filed s r more lits lits' entries entries' (Hop v x y) sign same stay find h =
    let n : normal r (Hop v x y) ≡ normal more (Hop v x y) =
    λ i. Hop v (record { 0 = sym (same x (inl refl)) i }) (record { 0 = sym (same y (inr (inl refl))) i }) in
    subst (λ (a : Atom). HasSign lits' entries' (number_of s a) sign) n
    (sign_along lits lits' entries entries' _ sign stay find h)
unmoved_filed s r more lits lits' entries entries' (Alloc v x) sign same stay find h =
    let n : normal r (Alloc v x) ≡ normal more (Alloc v x) = λ i. Alloc v (record { 0 = sym (same x (inl refl)) i }) in
    subst (λ (a : Atom). HasSign lits' entries' (number_of s a) sign) n
    (sign_along lits lits' entries entries' _ sign stay find h)
unmoved_filed s r more lits lits' entries entries' (Def k) sign same stay find h =
    sign_along lits lits' entries entries' _ sign stay find h

-- a term of the merged class is moved, and each other one keeps its representative
pub moved_or_kept : (links : List Link) (l : Link) (t : Term) → IsMoved (links ++ l ∷ []) t
    ⊎ (reps (links ++ l ∷ []) t.0 ≡ reps links t.0)
moved_or_kept links l t =
    let d = length links in
    let less : length (links ++ l ∷ []) - 1 ≡ d = omega (arith, length_push links l) in
    let link : get_or (links ++ l ∷ []) d no_link ≡ l =
    get_or_from_slice_get (links ++ l ∷ []) d l no_link (get_last links l) in
    elim (relabel_cases (reps links) l t.0) as (λ _. IsMoved (links ++ l ∷ []) t
    ⊎ (reps (links ++ l ∷ []) t.0 ≡ reps links t.0)) [
      | inl c ↦
          let here : rep (links ++ l ∷ []) d t.0 ≡ rep (links ++ l ∷ []) d l.from.0 =
          rep_front links (l ∷ []) d t.0 (omega arith) ∙ c.0
          ∙ sym (rep_front links (l ∷ []) d l.from.0 (omega arith)) in
          let named : rep (links ++ l ∷ []) d t.0
          ≡ rep (links ++ l ∷ []) d (get_or (links ++ l ∷ []) d no_link).from.0 =
          here ∙ ap (λ (k : Link). rep (links ++ l ∷ []) d k.from.0) (sym link) in
          inl (subst (λ n. rep (links ++ l ∷ []) n t.0
          ≡ rep (links ++ l ∷ []) n (get_or (links ++ l ∷ []) n no_link).from.0) (sym less) named)
      | inr c ↦ inr (rep_more links l t.0 ∙ c.1)
    ]

-- after a merge: literals over terms that stay were filed before, and the others are filed anew
pub moved_filed : (s : Sizes) (lits : List Lit) (place : ℕ) (links : List Link) (l : Link) (old new : Filed)
    (a b : Term) → length lits ≡ place + 1 → AreInRange s lits
    → last_of lits place ≡ equality a b → AreEnds l a b → Grows old new → AllFiled s (take place lits) links old.entries
    → ((i : ℕ) (k : Lit) (t : Term) → slice_get lits i ≡ Some k → Mentions k.atom t → t.0 < s.terms
    → IsMoved (links ++ l ∷ []) t → IsFiled s lits (links ++ l ∷ []) new.entries k)
    → AllFiled s lits (links ++ l ∷ []) new.entries
moved_filed s lits place links l old new a b long all is ends g before anew i d below =
    let k = get_or lits i d in
    let at : slice_get lits i ≡ Some k = slice_get-get_or lits i d below in
    let now = links ++ l ∷ [] in
    elim (cases_lt i place) as (λ _. IsFiled s lits now new.entries k) [
      | inl lt ↦
          let front : slice_get (take place lits) i ≡ Some k = take_get place lits i k lt at in
          let was : IsFiled s (take place lits) links old.entries k =
          All-contains (IsFiled s (take place lits) links old.entries) (take place lits) k before
          (slice_get-contains (take place lits) i k front) in
          elim (some_mention (IsMoved now) (λ t. reps now t.0 ≡ reps links t.0) (moved_or_kept links l) k.atom) as (λ _.
          IsFiled s lits now new.entries k) [
            | inl w ↦ anew i k w.0 at w.1 (mention_range s k.atom w.0 (all i d below) w.1) w.2
            | inr same ↦
                unmoved_filed s (reps links) (reps now) (take place lits) lits old.entries new.entries k.atom k.positive
                same (λ j y e. (get_take place lits j y e).1) (grows_find old new g) was
          ]
      | inr ge ↦
          let last : i ≡ place = omega arith in
          let here : k ≡ equality a b = same_Some _ _ (sym at ∙ ap (slice_get lits) last ∙ last_at lits place long)
          ∙ is in
          subst (λ (y : Lit). IsFiled s lits now new.entries y) (sym here) (ends_joined links l a b ends)
    ]
