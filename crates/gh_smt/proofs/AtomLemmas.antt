-- Atoms and literals at the front of a text.
use Rattle.std.proofs.Common.{◌≡◌, ◌≢◌, ℕ, zero, suc, ◌≤◌, List, [], ◌∷◌, ◌++◌, get_or, cond, nat_eq, codes, All, refl}
use Rattle.std.proofs.Common.{sym, ◌∙◌, ap, subst, arith, append_assoc}
use Rattle.std.specs.Fmt.{decimal}
use Rattle.std.specs.List.{flat_map}
use Rattle.std.proofs.lemmas.List.{append_cancel_left}
use Rattle.std.proofs.lemmas.List.Elements.{All-head, All-tail, All-cons}
use Rattle.gh_base.specs.declared.atom.Term.{Term}
use Rattle.gh_base.specs.declared.atom.Atom.{Atom}
use Rattle.gh_base.specs.declared.atom.Atom.TheVariants.{Eq, Btwn, Hop, Alloc, Def}
use Rattle.gh_base.specs.declared.sizes.Sizes.{Sizes}
use Rattle.gh_base.specs.Atoms.{IsInRange, term}
use Rattle.gh_log.specs.Reading.{SpellsNothing, EndsNumber, SpellsNumber, IsNotFront}
use Rattle.gh_log.proofs.NumberLemmas.{AreOne, one_number}
use Rattle.gh_smt.specs.Reading.{SpellsTerm, spaced_number, SpellsTerms, SpellsForm, SpellsAtom}

none : (P : ℕ → Type 0) → All P []
none P k d l = absurd (omega arith)

abbrev IsByte : ℕ → Type 0
IsByte n = n ≤ 255

-- terms

pub term_read : (text middle : List ℕ) (n : ℕ) (rest : List ℕ) → text ≡ codes " t" ++ middle
    → SpellsNumber 255 middle n rest → SpellsTerm text n rest
term_read text middle n rest e s =
    record { front = e ∙ ap (λ t. codes " t" ++ t) s.front; within = s.within; ends = s.ends }

pub no_term_number : (text middle : List ℕ) → text ≡ codes " t" ++ middle → SpellsNothing (SpellsNumber 255 middle)
    → SpellsNothing (SpellsTerm text)
no_term_number text middle e h n rest s =
    h n rest (record {
      front = append_cancel_left (codes " t") middle (decimal n ++ rest) (sym e ∙ s.front);
      within = s.within;
      ends = s.ends;
    })

pub no_term_here : (text : List ℕ) → IsNotFront (codes " t") text → SpellsNothing (SpellsTerm text)
no_term_here text h n rest s = h (decimal n ++ rest) s.front

one_term : (text : List ℕ) (m n : ℕ) (r q : List ℕ) → SpellsTerm text m r → SpellsTerm text n q → AreOne m n r q
one_term text m n r q a b =
    one_number m n r q (omega (arith, a.within)) (omega (arith, b.within)) a.ends b.ends
    (append_cancel_left (codes " t") (decimal m ++ r) (decimal n ++ q) (sym a.front ∙ b.front))

ends_terms : (ns rest : List ℕ) → EndsNumber (flat_map spaced_number ns ++ (41 ∷ rest))
ends_terms [] rest = refl
ends_terms (n ∷ ns) rest = refl

-- the first term, and those after it
record HasFirst (count : ℕ) (text : List ℕ) (ns rest : List ℕ) : Type 0 where
  n : ℕ
  others : List ℕ
  is : ns ≡ n ∷ others
  middle : List ℕ
  first : SpellsTerm text n middle
  left : SpellsTerms count middle others rest

first_term : (count : ℕ) (text ns rest : List ℕ) → SpellsTerms (suc count) text ns rest → HasFirst count text ns rest
first_term count text [] rest s = let l = s.counted in absurd (omega (arith, l))
first_term count text (n ∷ ns) rest s =
    let l = s.counted in
    record {
      n = n;
      others = ns;
      is = refl;
      middle = flat_map spaced_number ns ++ (41 ∷ rest);
      first = record {
        front = s.front ∙ append_assoc (spaced_number n) (flat_map spaced_number ns) (41 ∷ rest);
        within = All-head IsByte n ns s.within;
        ends = ends_terms ns rest;
      };
      left = record { front = refl; counted = omega (arith, l); within = All-tail IsByte n ns s.within };
    }

pub terms_read : (count : ℕ) (text middle : List ℕ) (n : ℕ) (ns rest : List ℕ) → SpellsTerm text n middle
    → SpellsTerms count middle ns rest → SpellsTerms (suc count) text (n ∷ ns) rest
terms_read count text middle n ns rest a b =
    let l = b.counted in
    record {
      front =
          a.front ∙ ap (λ t. codes " t" ++ (decimal n ++ t)) b.front
          ∙ sym (append_assoc (spaced_number n) (flat_map spaced_number ns) (41 ∷ rest));
      counted = omega (arith, l);
      within = All-cons IsByte n ns a.within b.within;
    }

pub terms_end : (text rest : List ℕ) → text ≡ codes ")" ++ rest → SpellsTerms 0 text [] rest
terms_end text rest e = record { front = e; counted = refl; within = none IsByte }

pub no_end_here : (text : List ℕ) → IsNotFront (codes ")") text → SpellsNothing (SpellsTerms 0 text)
no_end_here text h [] rest s = h rest s.front
no_end_here text h (n ∷ ns) rest s = let l = s.counted in absurd (omega (arith, l))

pub no_first : (count : ℕ) (text : List ℕ) → SpellsNothing (SpellsTerm text)
    → SpellsNothing (SpellsTerms (suc count) text)
no_first count text h ns rest s = let f = first_term count text ns rest s in h f.n f.middle f.first

pub no_others : (count : ℕ) (text : List ℕ) (n : ℕ) (middle : List ℕ) → SpellsTerm text n middle
    → SpellsNothing (SpellsTerms count middle) → SpellsNothing (SpellsTerms (suc count) text)
no_others count text n middle a h ns rest s =
    let f = first_term count text ns rest s in
    let one = one_term text n f.n middle f.middle a f.first in
    h f.others rest (subst (λ t. SpellsTerms count t f.others rest) (sym one.rest) f.left)

one_terms : (count : ℕ) (text ns ms r q : List ℕ) → SpellsTerms count text ns r → SpellsTerms count text ms q
    → AreOne ns ms r q
one_terms zero text [] [] r q a b = let e = sym a.front ∙ b.front in let t : r ≡ q = cc in
    record { value = refl; rest = t }
one_terms zero text [] (m ∷ ms) r q a b = let l = b.counted in absurd (omega (arith, l))
one_terms zero text (n ∷ ns) ms r q a b = let l = a.counted in absurd (omega (arith, l))
one_terms (suc count) text ns ms r q a b =
    let f = first_term count text ns r a in let g = first_term count text ms q b in
    let one = one_term text f.n g.n f.middle g.middle f.first g.first in
    let more =
    one_terms count f.middle f.others g.others r q f.left
    (subst (λ t. SpellsTerms count t g.others q) (sym one.rest) g.left) in
    let fe = f.is in let ge = g.is in let here : f.n ≡ g.n = one.value in
    let there : f.others ≡ g.others = more.value in
    record { value = cc; rest = more.rest }

-- the letter of a relation, what is written after it, and its numbers
abbrev kind_of : Atom → ℕ
kind_of (Eq a b) = 61
kind_of (Btwn v x y z) = 98
kind_of (Hop v x y) = 104
kind_of (Alloc v x) = 97
kind_of (Def number) = 0

abbrev count_at : ℕ → ℕ
count_at k = cond (nat_eq k 98) 3 (cond (nat_eq k 104) 2 1)

-- the version of a relation and its terms
record HasVersion (k : ℕ) (text : List ℕ) (x : Atom) (rest : List ℕ) : Type 0 where
  v : ℕ
  ns : List ℕ
  middle : List ℕ
  number : SpellsNumber 255 text v middle
  terms : SpellsTerms (count_at k) middle ns rest
  is : x ≡ cond (nat_eq k 98) (Btwn v (term (get_or ns 0 0)) (term (get_or ns 1 0)) (term (get_or ns 2 0)))
      (cond (nat_eq k 104) (Hop v (term (get_or ns 0 0)) (term (get_or ns 1 0))) (Alloc v (term (get_or ns 0 0))))

two_bytes : (x y : ℕ) → IsByte x → IsByte y → All IsByte (x ∷ y ∷ [])
two_bytes x y a b = All-cons IsByte x (y ∷ []) a (All-cons IsByte y [] b (none IsByte))

regroup : (d t r : List ℕ) → (d ++ (t ++ 41 ∷ [])) ++ r ≡ d ++ (t ++ (41 ∷ r))
regroup d t r = append_assoc d (t ++ 41 ∷ []) r ∙ ap (λ u. d ++ u) (append_assoc t (41 ∷ []) r)

tail_is : (a b c d : ℕ) (x y : List ℕ) → a ∷ b ∷ x ≡ c ∷ d ∷ y → x ≡ y
tail_is a b c d x y e = cc

second_is : (a b c d : ℕ) (x y : List ℕ) → a ∷ b ∷ x ≡ c ∷ d ∷ y → b ≡ d
second_is a b c d x y e = cc

first_is : (a c : ℕ) (x y : List ℕ) → a ∷ x ≡ c ∷ y → a ≡ c
first_is a c x y e = cc

versioned : (k : ℕ) (text : List ℕ) (x : Atom) (rest : List ℕ) → k ≢ 61 → SpellsForm (40 ∷ k ∷ text) x rest
    → HasVersion k text x rest
versioned k text (Eq a b) rest ne s = absurd (ne (second_is 40 k 40 61 _ _ s.front))
versioned k text (Btwn v x y z) rest ne s =
    let e : k ≡ 98 = second_is 40 k 40 98 _ _ s.front in
    subst (λ k. HasVersion k text (Btwn v x y z) rest) (sym e)
    (record {
      v = v;
      ns = x.0 ∷ y.0 ∷ z.0 ∷ [];
      middle = flat_map spaced_number (x.0 ∷ y.0 ∷ z.0 ∷ []) ++ (41 ∷ rest);
      number = record {
        front = tail_is 40 k 40 98 _ _ s.front
            ∙ regroup (decimal v) (flat_map spaced_number (x.0 ∷ y.0 ∷ z.0 ∷ [])) rest;
        within = s.fits.0;
        ends = refl;
      };
      terms = record {
        front = refl;
        counted = refl;
        within = All-cons IsByte x.0 (y.0 ∷ z.0 ∷ []) s.fits.1 (two_bytes y.0 z.0 s.fits.2 s.fits.3);
      };
      is = refl;
    })
versioned k text (Hop v x y) rest ne s =
    let e : k ≡ 104 = second_is 40 k 40 104 _ _ s.front in
    subst (λ k. HasVersion k text (Hop v x y) rest) (sym e)
    (record {
      v = v;
      ns = x.0 ∷ y.0 ∷ [];
      middle = flat_map spaced_number (x.0 ∷ y.0 ∷ []) ++ (41 ∷ rest);
      number = record {
        front = tail_is 40 k 40 104 _ _ s.front
            ∙ regroup (decimal v) (flat_map spaced_number (x.0 ∷ y.0 ∷ [])) rest;
        within = s.fits.0;
        ends = refl;
      };
      terms = record { front = refl; counted = refl; within = two_bytes x.0 y.0 s.fits.1 s.fits.2 };
      is = refl;
    })
versioned k text (Alloc v x) rest ne s =
    let e : k ≡ 97 = second_is 40 k 40 97 _ _ s.front in
    subst (λ k. HasVersion k text (Alloc v x) rest) (sym e)
    (record {
      v = v;
      ns = x.0 ∷ [];
      middle = flat_map spaced_number (x.0 ∷ []) ++ (41 ∷ rest);
      number = record {
        front = tail_is 40 k 40 97 _ _ s.front
            ∙ regroup (decimal v) (flat_map spaced_number (x.0 ∷ [])) rest;
        within = s.fits.0;
        ends = refl;
      };
      terms = record { front = refl; counted = refl; within = All-cons IsByte x.0 [] s.fits.1 (none IsByte) };
      is = refl;
    })
versioned k text (Def number) rest ne s = let e : ◌≡◌ {A = ℕ} 40 100 = first_is 40 100 _ _ s.front in
    absurd (omega (arith, e))

pub no_version : (k : ℕ) (text : List ℕ) → k ≢ 61 → SpellsNothing (SpellsNumber 255 text)
    → SpellsNothing (SpellsForm (40 ∷ k ∷ text))
no_version k text ne h x rest s = let w = versioned k text x rest ne s in h w.v w.middle w.number

pub no_terms : (k : ℕ) (text : List ℕ) (v : ℕ) (middle : List ℕ) → k ≢ 61 → SpellsNumber 255 text v middle
    → SpellsNothing (SpellsTerms (count_at k) middle) → SpellsNothing (SpellsForm (40 ∷ k ∷ text))
no_terms k text v middle ne a h x rest s =
    let w = versioned k text x rest ne s in
    let one =
    one_number v w.v middle w.middle (omega (arith, a.within)) (omega (arith, w.number.within)) a.ends w.number.ends
    (sym a.front ∙ w.number.front) in
    h w.ns rest (subst (λ t. SpellsTerms (count_at k) t w.ns rest) (sym one.rest) w.terms)

one_versioned : (k : ℕ) (text : List ℕ) (x y : Atom) (r q : List ℕ) → HasVersion k text x r → HasVersion k text y q
    → AreOne x y r q
one_versioned k text x y r q a b =
    let one =
    one_number a.v b.v a.middle b.middle (omega (arith, a.number.within)) (omega (arith, b.number.within))
    a.number.ends b.number.ends (sym a.number.front ∙ b.number.front) in
    let more =
    one_terms (count_at k) a.middle a.ns b.ns r q a.terms
    (subst (λ t. SpellsTerms (count_at k) t b.ns q) (sym one.rest) b.terms) in
    let made : ℕ → List ℕ → Atom =
    λ v ns. cond (nat_eq k 98) (Btwn v (term (get_or ns 0 0)) (term (get_or ns 1 0)) (term (get_or ns 2 0)))
    (cond (nat_eq k 104) (Hop v (term (get_or ns 0 0)) (term (get_or ns 1 0))) (Alloc v (term (get_or ns 0 0)))) in
    record { value = a.is ∙ (λ i. made (one.value i) (more.value i)) ∙ sym b.is; rest = more.rest }

-- the two terms of an equality
record HasTwo (text : List ℕ) (x : Atom) (rest : List ℕ) : Type 0 where
  ns : List ℕ
  terms : SpellsTerms 2 text ns rest
  is : x ≡ Eq (term (get_or ns 0 0)) (term (get_or ns 1 0))

equated : (text : List ℕ) (x : Atom) (rest : List ℕ) → SpellsForm (40 ∷ 61 ∷ text) x rest → HasTwo text x rest
equated text (Eq a b) rest s =
    record {
      ns = a.0 ∷ b.0 ∷ [];
      terms = record {
        front = tail_is 40 61 40 61 _ _ s.front ∙ append_assoc (flat_map spaced_number (a.0 ∷ b.0 ∷ [])) (41 ∷ []) rest;
        counted = refl;
        within = two_bytes a.0 b.0 s.fits.0 s.fits.1;
      };
      is = refl;
    }
equated text (Btwn v x y z) rest s = let e : ◌≡◌ {A = ℕ} 61 98 = second_is 40 61 40 98 _ _ s.front in
    absurd (omega (arith, e))
equated text (Hop v x y) rest s = let e : ◌≡◌ {A = ℕ} 61 104 = second_is 40 61 40 104 _ _ s.front in
    absurd (omega (arith, e))
equated text (Alloc v x) rest s = let e : ◌≡◌ {A = ℕ} 61 97 = second_is 40 61 40 97 _ _ s.front in
    absurd (omega (arith, e))
equated text (Def number) rest s = let e : ◌≡◌ {A = ℕ} 40 100 = first_is 40 100 _ _ s.front in absurd (omega (arith, e))

pub no_equality : (text : List ℕ) → SpellsNothing (SpellsTerms 2 text) → SpellsNothing (SpellsForm (40 ∷ 61 ∷ text))
no_equality text h x rest s = let w = equated text x rest s in h w.ns rest w.terms

-- the number of a definition
record HasNumber (text : List ℕ) (x : Atom) (rest : List ℕ) : Type 0 where
  n : ℕ
  number : SpellsNumber 4294967295 text n rest
  is : x ≡ Def n

defined : (text : List ℕ) (x : Atom) (rest : List ℕ) → SpellsForm (100 ∷ text) x rest → HasNumber text x rest
defined text (Eq a b) rest s = let e : ◌≡◌ {A = ℕ} 100 40 = first_is 100 40 _ _ s.front in absurd (omega (arith, e))
defined text (Btwn v x y z) rest s = let e : ◌≡◌ {A = ℕ} 100 40 = first_is 100 40 _ _ s.front in
    absurd (omega (arith, e))
defined text (Hop v x y) rest s = let e : ◌≡◌ {A = ℕ} 100 40 = first_is 100 40 _ _ s.front in absurd (omega (arith, e))
defined text (Alloc v x) rest s = let e : ◌≡◌ {A = ℕ} 100 40 = first_is 100 40 _ _ s.front in absurd (omega (arith, e))
defined text (Def number) rest s =
    let f = s.front in
    let t : text ≡ decimal number ++ rest = cc in
    record { n = number; number = record { front = t; within = s.fits; ends = s.ends }; is = refl }

pub no_number : (text : List ℕ) → SpellsNothing (SpellsNumber 4294967295 text) → SpellsNothing (SpellsForm (100 ∷ text))
no_number text h x rest s = let w = defined text x rest s in h w.n rest w.number

one_equality : (text : List ℕ) (x y : Atom) (r q : List ℕ) → SpellsForm (40 ∷ 61 ∷ text) x r
    → SpellsForm (40 ∷ 61 ∷ text) y q → AreOne x y r q
one_equality text x y r q s u =
    let a = equated text x r s in let b = equated text y q u in
    let one = one_terms 2 text a.ns b.ns r q a.terms b.terms in
    let made : List ℕ → Atom = λ ns. Eq (term (get_or ns 0 0)) (term (get_or ns 1 0)) in
    record { value = a.is ∙ (λ i. made (one.value i)) ∙ sym b.is; rest = one.rest }

one_relation : (k : ℕ) (text : List ℕ) (x y : Atom) (r q : List ℕ) → k ≢ 61 → SpellsForm (40 ∷ k ∷ text) x r
    → SpellsForm (40 ∷ k ∷ text) y q → AreOne x y r q
one_relation k text x y r q ne s u =
    one_versioned k text x y r q (versioned k text x r ne s) (versioned k text y q ne u)

one_definition : (text : List ℕ) (x y : Atom) (r q : List ℕ) → SpellsForm (100 ∷ text) x r → SpellsForm (100 ∷ text) y q
    → AreOne x y r q
one_definition text x y r q s u =
    let a = defined text x r s in let b = defined text y q u in
    let one =
    one_number a.n b.n r q (omega (arith, a.number.within)) (omega (arith, b.number.within)) a.number.ends
    b.number.ends (sym a.number.front ∙ b.number.front) in
    record { value = a.is ∙ (λ i. Def (one.value i)) ∙ sym b.is; rest = one.rest }

moved : (text other : List ℕ) (x : Atom) (r : List ℕ) → text ≡ other → SpellsForm text x r → SpellsForm other x r
moved text other x r e s = subst (λ t. SpellsForm t x r) e s

pub one_form : (text : List ℕ) (x y : Atom) (r q : List ℕ) → SpellsForm text x r → SpellsForm text y q → AreOne x y r q
one_form text (Eq a b) y r q s u =
    one_equality _ (Eq a b) y r q (moved text _ (Eq a b) r s.front s) (moved text _ y q s.front u)
one_form text (Btwn v a b c) y r q s u =
    one_relation 98 _ (Btwn v a b c) y r q (λ e. absurd (omega (arith, e))) (moved text _ (Btwn v a b c) r s.front s)
    (moved text _ y q s.front u)
one_form text (Hop v a b) y r q s u =
    one_relation 104 _ (Hop v a b) y r q (λ e. absurd (omega (arith, e))) (moved text _ (Hop v a b) r s.front s)
    (moved text _ y q s.front u)
one_form text (Alloc v a) y r q s u =
    one_relation 97 _ (Alloc v a) y r q (λ e. absurd (omega (arith, e))) (moved text _ (Alloc v a) r s.front s)
    (moved text _ y q s.front u)
one_form text (Def n) y r q s u =
    one_definition _ (Def n) y r q (moved text _ (Def n) r s.front s) (moved text _ y q s.front u)

drop_first : (a b : ℕ) (x y : List ℕ) → a ∷ x ≡ b ∷ y → x ≡ y
drop_first a b x y e = cc

pub no_applied : (text : List ℕ) → IsNotFront (codes "=") text → IsNotFront (codes "b") text
    → IsNotFront (codes "h") text → IsNotFront (codes "a") text → SpellsNothing (SpellsForm (40 ∷ text))
no_applied text e b h a (Eq x y) rest s = e _ (drop_first 40 40 _ _ s.front)
no_applied text e b h a (Btwn v x y z) rest s = b _ (drop_first 40 40 _ _ s.front)
no_applied text e b h a (Hop v x y) rest s = h _ (drop_first 40 40 _ _ s.front)
no_applied text e b h a (Alloc v x) rest s = a _ (drop_first 40 40 _ _ s.front)
no_applied text e b h a (Def n) rest s = let k : ◌≡◌ {A = ℕ} 40 100 = first_is 40 100 _ _ s.front in
    absurd (omega (arith, k))

pub no_form : (text : List ℕ) → IsNotFront (codes "(") text → IsNotFront (codes "d") text
    → SpellsNothing (SpellsForm text)
no_form text p d (Eq x y) rest s = p _ s.front
no_form text p d (Btwn v x y z) rest s = p _ s.front
no_form text p d (Hop v x y) rest s = p _ s.front
no_form text p d (Alloc v x) rest s = p _ s.front
no_form text p d (Def n) rest s = d _ s.front

-- what is read of each kind
pub equality_read : (text : List ℕ) (a b : Term) (rest : List ℕ) → SpellsTerms 2 text (a.0 ∷ b.0 ∷ []) rest
    → SpellsForm (40 ∷ 61 ∷ text) (Eq a b) rest
equality_read text a b rest s =
    record {
      front =
          ap (λ t. 40 ∷ 61 ∷ t) (s.front ∙ sym (append_assoc (flat_map spaced_number (a.0 ∷ b.0 ∷ [])) (41 ∷ []) rest));
      fits = (
        All-head IsByte a.0 (b.0 ∷ []) s.within,
        All-head IsByte b.0 [] (All-tail IsByte a.0 (b.0 ∷ []) s.within),
      );
      ends = tt;
    }

pub between_read : (text : List ℕ) (v : ℕ) (middle : List ℕ) (x y z : Term) (rest : List ℕ)
    → SpellsNumber 255 text v middle → SpellsTerms 3 middle (x.0 ∷ y.0 ∷ z.0 ∷ []) rest
    → SpellsForm (40 ∷ 98 ∷ text) (Btwn v x y z) rest
between_read text v middle x y z rest n s =
    let ns = x.0 ∷ y.0 ∷ z.0 ∷ [] in
    let t = All-tail IsByte x.0 (y.0 ∷ z.0 ∷ []) s.within in
    record {
      front =
          ap (λ t. 40 ∷ 98 ∷ t) (n.front ∙ ap (λ t. decimal v ++ t) s.front
          ∙ sym (regroup (decimal v) (flat_map spaced_number ns) rest));
      fits = (
        n.within,
        All-head IsByte x.0 (y.0 ∷ z.0 ∷ []) s.within,
        All-head IsByte y.0 (z.0 ∷ []) t,
        All-head IsByte z.0 [] (All-tail IsByte y.0 (z.0 ∷ []) t),
      );
      ends = tt;
    }

pub hop_read : (text : List ℕ) (v : ℕ) (middle : List ℕ) (x y : Term) (rest : List ℕ) → SpellsNumber 255 text v middle
    → SpellsTerms 2 middle (x.0 ∷ y.0 ∷ []) rest
    → SpellsForm (40 ∷ 104 ∷ text) (Hop v x y) rest
hop_read text v middle x y rest n s =
    let ns = x.0 ∷ y.0 ∷ [] in
    record {
      front =
          ap (λ t. 40 ∷ 104 ∷ t) (n.front ∙ ap (λ t. decimal v ++ t) s.front
          ∙ sym (regroup (decimal v) (flat_map spaced_number ns) rest));
      fits = (
        n.within,
        All-head IsByte x.0 (y.0 ∷ []) s.within,
        All-head IsByte y.0 [] (All-tail IsByte x.0 (y.0 ∷ []) s.within),
      );
      ends = tt;
    }

pub alloc_read : (text : List ℕ) (v : ℕ) (middle : List ℕ) (x : Term) (rest : List ℕ) → SpellsNumber 255 text v middle
    → SpellsTerms 1 middle (x.0 ∷ []) rest
    → SpellsForm (40 ∷ 97 ∷ text) (Alloc v x) rest
alloc_read text v middle x rest n s =
    let ns = x.0 ∷ [] in
    record {
      front =
          ap (λ t. 40 ∷ 97 ∷ t) (n.front ∙ ap (λ t. decimal v ++ t) s.front
          ∙ sym (regroup (decimal v) (flat_map spaced_number ns) rest));
      fits = (n.within, All-head IsByte x.0 [] s.within);
      ends = tt;
    }

pub definition_read : (text : List ℕ) (n : ℕ) (rest : List ℕ) → SpellsNumber 4294967295 text n rest
    → SpellsForm (100 ∷ text) (Def n) rest
definition_read text n rest s = record { front = ap (λ t. 100 ∷ t) s.front; fits = s.within; ends = s.ends }

pub no_atom : (s : Sizes) (text : List ℕ) → SpellsNothing (SpellsForm text) → SpellsNothing (SpellsAtom s text)
no_atom s text h x rest a = h x rest a.form

pub out_of_range : (s : Sizes) (text : List ℕ) (x : Atom) (rest : List ℕ) → SpellsForm text x rest → (IsInRange s x → ⊥)
    → SpellsNothing (SpellsAtom s text)
out_of_range s text x rest f ne y q a =
    let one = one_form text x y rest q f a.form in
    ne (subst (IsInRange s) (sym one.value) a.in_range)
