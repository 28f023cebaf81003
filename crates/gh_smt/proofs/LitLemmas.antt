-- Literals at the front of a text.
use Rattle.std.proofs.Common.{◌≡◌, ℕ, List, [], ◌∷◌, ◌++◌, Bool, true, false, codes, refl, sym, ◌∙◌, ap, subst, arith}
use Rattle.std.proofs.Common.{append_assoc}
use Rattle.std.specs.Char.{is_ascii_digit}
use Rattle.std.specs.List.{flat_map}
use Rattle.std.proofs.lemmas.List.{append_cancel_left}
use Rattle.gh_base.specs.declared.atom.Atom.{Atom}
use Rattle.gh_base.specs.declared.atom.Atom.TheVariants.{Eq, Btwn, Hop, Alloc, Def}
use Rattle.gh_base.specs.declared.atom.Lit.{Lit}
use Rattle.gh_base.specs.declared.sizes.Sizes.{Sizes}
use Rattle.gh_log.specs.Reading.{SpellsNothing, IsNotFront}
use Rattle.gh_log.proofs.NumberLemmas.{AreOne}
use Rattle.gh_smt.specs.Texts.{atom_text, lit_text, spaced_lit, signed_text}
use Rattle.gh_smt.specs.Reading.{EndsAtom, SpellsAtom, EndsLit, IsSpelledLit, SpellsLit, SpellsSpaced, lits_end}
use Rattle.gh_smt.proofs.AtomLemmas.{one_form}
use Rattle.gh_smt.proofs.ItemLemmas.{AreItems}

second : (a b c d : ℕ) (x y : List ℕ) → a ∷ b ∷ x ≡ c ∷ d ∷ y → b ≡ d
second a b c d x y e = cc

head : (a c : ℕ) (x y : List ℕ) → a ∷ x ≡ c ∷ y → a ≡ c
head a c x y e = cc

-- the sign of a negative literal is no atom's front
not_an_atom : (x : Atom) (t rest : List ℕ) → codes "(not " ++ t ≡ atom_text x ++ rest → ⊥
not_an_atom (Eq a b) t rest e = let k : ◌≡◌ {A = ℕ} 110 61 = second 40 110 40 61 _ _ e in absurd (omega (arith, k))
not_an_atom (Btwn v x y z) t rest e = let k : ◌≡◌ {A = ℕ} 110 98 = second 40 110 40 98 _ _ e in
    absurd (omega (arith, k))
not_an_atom (Hop v x y) t rest e = let k : ◌≡◌ {A = ℕ} 110 104 = second 40 110 40 104 _ _ e in absurd (omega (arith, k))
not_an_atom (Alloc v x) t rest e = let k : ◌≡◌ {A = ℕ} 110 97 = second 40 110 40 97 _ _ e in absurd (omega (arith, k))
not_an_atom (Def n) t rest e = let k : ◌≡◌ {A = ℕ} 40 100 = head 40 100 _ _ e in absurd (omega (arith, k))

negative_front : (p : Bool) (x : Atom) (t rest : List ℕ) → codes "(not " ++ t ≡ signed_text p (atom_text x) ++ rest
    → (p ≡ false) × (t ≡ atom_text x ++ (41 ∷ rest))
negative_front true x t rest e = absurd (not_an_atom x t rest e)
negative_front false x t rest e = (
  refl,
  append_cancel_left (codes "(not ") t ((atom_text x ++ 41 ∷ []) ++ rest) e
      ∙ append_assoc (atom_text x) (41 ∷ []) rest,
)

ends_there : (x : Atom) (rest : List ℕ) → EndsAtom x (41 ∷ rest)
ends_there (Eq a b) rest = tt
ends_there (Btwn v x y z) rest = tt
ends_there (Hop v x y) rest = tt
ends_there (Alloc v x) rest = tt
ends_there (Def n) rest = refl

-- the atom of a negative literal
negated : (s : Sizes) (t : List ℕ) (l : Lit) (rest : List ℕ) → SpellsLit s (codes "(not " ++ t) l rest
    → (l.positive ≡ false) × SpellsAtom s t l.atom (41 ∷ rest)
negated s t l rest h =
    let f = negative_front l.positive l.atom t rest h.front in (
      f.0,
      record {
        form = record { front = f.1; fits = h.spelled.fits; ends = ends_there l.atom rest };
        in_range = h.spelled.in_range;
      },
    )

pub negative_read : (s : Sizes) (t middle : List ℕ) (x : Atom) (rest : List ℕ) → SpellsAtom s t x middle
    → middle ≡ codes ")" ++ rest → SpellsLit s (codes "(not " ++ t) (record { atom = x; positive = false }) rest
negative_read s t middle x rest a e =
    record {
      front =
          ap (λ u. codes "(not " ++ u)
          (a.form.front ∙ ap (λ u. atom_text x ++ u) e ∙ sym (append_assoc (atom_text x) (41 ∷ []) rest));
      spelled = record { fits = a.form.fits; in_range = a.in_range };
      ends = tt;
    }

pub no_negative : (s : Sizes) (t : List ℕ) → SpellsNothing (SpellsAtom s t)
    → SpellsNothing (SpellsLit s (codes "(not " ++ t))
no_negative s t h l rest a = h l.atom (41 ∷ rest) (negated s t l rest a).1

pub no_negative_end : (s : Sizes) (t middle : List ℕ) (x : Atom) → SpellsAtom s t x middle
    → IsNotFront (codes ")") middle → SpellsNothing (SpellsLit s (codes "(not " ++ t))
no_negative_end s t middle x a h l rest b =
    let n = negated s t l rest b in
    let one = one_form t x l.atom middle (41 ∷ rest) a.form n.1.form in
    h rest one.rest

pub positive_read : (s : Sizes) (text : List ℕ) (x : Atom) (rest : List ℕ) → SpellsAtom s text x rest
    → SpellsLit s text (record { atom = x; positive = true }) rest
positive_read s text x rest a =
    record { front = a.form.front; spelled = record { fits = a.form.fits; in_range = a.in_range }; ends = a.form.ends }

asserted_atom : (p : Bool) (s : Sizes) (text : List ℕ) (x : Atom) (rest : List ℕ) → IsNotFront (codes "(not ") text
    → SpellsLit s text (record { atom = x; positive = p }) rest → (p ≡ true) × SpellsAtom s text x rest
asserted_atom true s text x rest n h = (
  refl,
  record {
    form = record { front = h.front; fits = h.spelled.fits; ends = h.ends };
    in_range = h.spelled.in_range;
  },
)
asserted_atom false s text x rest n h = absurd (n ((atom_text x ++ 41 ∷ []) ++ rest) h.front)

pub no_positive : (s : Sizes) (text : List ℕ) → IsNotFront (codes "(not ") text → SpellsNothing (SpellsAtom s text)
    → SpellsNothing (SpellsLit s text)
no_positive s text n h l rest a = h l.atom rest (asserted_atom l.positive s text l.atom rest n a).1

one_signed : (p o : Bool) (s : Sizes) (text : List ℕ) (x y : Atom) (r q : List ℕ)
    → SpellsLit s text (record { atom = x; positive = p }) r → SpellsLit s text (record { atom = y; positive = o }) q
    → (p ≡ o) × AreOne x y r q
one_signed true true s text x y r q a b = (
  refl,
  one_form text x y r q (record { front = a.front; fits = a.spelled.fits; ends = a.ends })
      (record { front = b.front; fits = b.spelled.fits; ends = b.ends }),
)
one_signed true false s text x y r q a b =
    absurd (not_an_atom x ((atom_text y ++ 41 ∷ []) ++ q) r (sym b.front ∙ a.front))
one_signed false true s text x y r q a b =
    absurd (not_an_atom y ((atom_text x ++ 41 ∷ []) ++ r) q (sym a.front ∙ b.front))
one_signed false false s text x y r q a b =
    let t = (atom_text x ++ 41 ∷ []) ++ r in
    let f =
    negated s t (record { atom = x; positive = false }) r
    (record { front = refl; spelled = a.spelled; ends = tt }) in
    let g =
    negated s t (record { atom = y; positive = false }) q
    (record { front = sym a.front ∙ b.front; spelled = b.spelled; ends = tt }) in
    let one = one_form t x y (41 ∷ r) (41 ∷ q) f.1.form g.1.form in
    let e = one.rest in
    let rest : r ≡ q = cc in
    (refl, record { value = one.value; rest = rest })

pub one_lit : (s : Sizes) (text : List ℕ) (l m : Lit) (r q : List ℕ) → SpellsLit s text l r → SpellsLit s text m q
    → AreOne l m r q
one_lit s text l m r q a b =
    let one = one_signed l.positive m.positive s text l.atom m.atom r q a b in
    record { value = λ i. record { atom = one.1.value i; positive = one.0 i }; rest = one.1.rest }

-- a literal is ended by what is no digit
pub ends_lit : (p : Bool) (x : Atom) (b : ℕ) (rest : List ℕ) → is_ascii_digit b ≡ false → EndsLit p x (b ∷ rest)
ends_lit false x b rest h = tt
ends_lit true (Eq c d) b rest h = tt
ends_lit true (Btwn v x y z) b rest h = tt
ends_lit true (Hop v x y) b rest h = tt
ends_lit true (Alloc v x) b rest h = tt
ends_lit true (Def n) b rest h = h

-- literals after a space
pub spaced_read : (s : Sizes) (text middle : List ℕ) (l : Lit) (rest : List ℕ) → text ≡ codes " " ++ middle
    → SpellsLit s middle l rest → SpellsSpaced s text l rest
spaced_read s text middle l rest e h = record { middle = middle; front = e; lit = h }

pub no_space : (s : Sizes) (text : List ℕ) → IsNotFront (codes " ") text → SpellsNothing (SpellsSpaced s text)
no_space s text h l rest a = h a.middle a.front

pub no_spaced : (s : Sizes) (text middle : List ℕ) → text ≡ codes " " ++ middle → SpellsNothing (SpellsLit s middle)
    → SpellsNothing (SpellsSpaced s text)
no_spaced s text middle e h l rest a =
    let f = a.front in
    let same : a.middle ≡ middle = cc in
    h l rest (subst (λ t. SpellsLit s t l rest) same a.lit)

pub one_spaced : (s : Sizes) (text : List ℕ) (l m : Lit) (r q : List ℕ) → SpellsSpaced s text l r
    → SpellsSpaced s text m q → AreOne l m r q
one_spaced s text l m r q a b =
    let e = a.front in let f = b.front in
    let same : b.middle ≡ a.middle = cc in
    one_lit s a.middle l m r q a.lit (subst (λ t. SpellsLit s t m q) same b.lit)

-- literals after a space are items before the end of their assertion
lits_before : (s : Sizes) (l : Lit) (ls : List Lit) (r : List ℕ) → IsSpelledLit s l
    → SpellsSpaced s (spaced_lit l ++ (flat_map spaced_lit ls ++ (lits_end ++ r))) l
    (flat_map spaced_lit ls ++ (lits_end ++ r))
lits_before s l [] r is =
    record {
      middle = lit_text l ++ (lits_end ++ r);
      front = refl;
      lit = record { front = refl; spelled = is; ends = ends_lit l.positive l.atom 41 _ refl };
    }
lits_before s l (m ∷ ls) r is =
    record {
      middle = lit_text l ++ (flat_map spaced_lit (m ∷ ls) ++ (lits_end ++ r));
      front = refl;
      lit = record { front = refl; spelled = is; ends = ends_lit l.positive l.atom 32 _ refl };
    }

pub are_lits : (s : Sizes) → AreItems spaced_lit (IsSpelledLit s) lits_end (SpellsSpaced s)
are_lits s =
    record {
      one = one_spaced s;
      front = λ text x r a. a.front ∙ ap (λ t. 32 ∷ t) a.lit.front;
      is = λ text x r a. a.lit.spelled;
      before = lits_before s;
      apart = λ x r q e. let k : ◌≡◌ {A = ℕ} 32 41 = head 32 41 _ _ e in absurd (omega (arith, k));
    }
