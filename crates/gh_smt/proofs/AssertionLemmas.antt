-- Assertions at the front of a text.
use Rattle.std.proofs.Common.{◌≡◌, ℕ, ◌<◌, ◌≤◌, List, [], ◌∷◌, ◌++◌, length, Bool, true, false, codes, refl, sym, ◌∙◌}
use Rattle.std.proofs.Common.{ap, arith, append_assoc}
use Rattle.std.specs.List.{flat_map}
use Rattle.std.proofs.lemmas.List.{append_cancel_left}
use Rattle.std.proofs.lemmas.List.Elements.{All-head, All-cons}
use Rattle.gh_base.specs.declared.atom.Atom.{Atom}
use Rattle.gh_base.specs.declared.atom.Atom.TheVariants.{Eq, Btwn, Hop, Alloc, Def}
use Rattle.gh_base.specs.declared.atom.Lit.{Lit}
use Rattle.gh_base.specs.declared.sizes.Sizes.{Sizes}
use Rattle.gh_log.specs.Reading.{SpellsNothing, IsNotFront}
use Rattle.gh_log.proofs.NumberLemmas.{AreOne}
use Rattle.gh_smt.specs.Texts.{atom_text, lit_text, spaced_lit, signed_text, assertion_text, foot_text}
use Rattle.gh_smt.specs.Reading.{IsSpelledLit, SpellsLit, SpellsSpaced, lits_end, SpellsLits, IsSpelledAssertion}
use Rattle.gh_smt.specs.Reading.{SpellsAssertion}
use Rattle.gh_smt.proofs.ItemLemmas.{AreItems, one_items}
use Rattle.gh_smt.proofs.LitLemmas.{one_lit, ends_lit, are_lits}

second : (a b c d : ℕ) (x y : List ℕ) → a ∷ b ∷ x ≡ c ∷ d ∷ y → b ≡ d
second a b c d x y e = cc

head : (a c : ℕ) (x y : List ℕ) → a ∷ x ≡ c ∷ y → a ≡ c
head a c x y e = cc

-- no literal begins as several literals do
not_signed : (p : Bool) (x : Atom) (t rest : List ℕ) → codes "(or" ++ t ≡ signed_text p (atom_text x) ++ rest → ⊥
not_signed false x t rest e = let k : ◌≡◌ {A = ℕ} 111 110 = second 40 111 40 110 _ _ e in absurd (omega (arith, k))
not_signed true (Eq a b) t rest e = let k : ◌≡◌ {A = ℕ} 111 61 = second 40 111 40 61 _ _ e in absurd (omega (arith, k))
not_signed true (Btwn v x y z) t rest e = let k : ◌≡◌ {A = ℕ} 111 98 = second 40 111 40 98 _ _ e in
    absurd (omega (arith, k))
not_signed true (Hop v x y) t rest e = let k : ◌≡◌ {A = ℕ} 111 104 = second 40 111 40 104 _ _ e in
    absurd (omega (arith, k))
not_signed true (Alloc v x) t rest e = let k : ◌≡◌ {A = ℕ} 111 97 = second 40 111 40 97 _ _ e in
    absurd (omega (arith, k))
not_signed true (Def n) t rest e = let k : ◌≡◌ {A = ℕ} 40 100 = head 40 100 _ _ e in absurd (omega (arith, k))

-- the text of one literal
one_text : (l : Lit) (rest : List ℕ)
    → (codes "(assert " ++ (lit_text l ++ codes ")\n")) ++ rest ≡ codes "(assert " ++ (lit_text l ++ (41 ∷ 10 ∷ rest))
one_text l rest = ap (λ t. codes "(assert " ++ t) (append_assoc (lit_text l) (codes ")\n") rest)

-- the text of several
all_text : (ls : List Lit) (rest : List ℕ)
    → (codes "(assert (or" ++ (flat_map spaced_lit ls ++ lits_end)) ++ rest
    ≡ codes "(assert (or" ++ (flat_map spaced_lit ls ++ (lits_end ++ rest))
all_text ls rest = ap (λ t. codes "(assert (or" ++ t) (append_assoc (flat_map spaced_lit ls) lits_end rest)

several : (s : Sizes) (t : List ℕ) (c : List Lit) (rest : List ℕ) → SpellsAssertion s (codes "(assert (or" ++ t) c rest
    → (2 ≤ length c) × SpellsLits s t c rest
several s t [] rest a = let k = a.spelled.some in absurd (omega (arith, k))
several s t (l ∷ []) rest a =
    absurd (not_signed l.positive l.atom t (41 ∷ 10 ∷ rest)
    (append_cancel_left (codes "(assert ") (codes "(or" ++ t) (lit_text l ++ (41 ∷ 10 ∷ rest))
    (a.front ∙ one_text l rest)))
several s t (l ∷ m ∷ ls) rest a = (
  omega arith,
  record {
    front =
        append_cancel_left (codes "(assert (or") t (flat_map spaced_lit (l ∷ m ∷ ls) ++ (lits_end ++ rest))
        (a.front ∙ all_text (l ∷ m ∷ ls) rest);
    spelled = a.spelled.lits;
  },
)

pub several_read : (s : Sizes) (t : List ℕ) (c : List Lit) (rest : List ℕ) → 2 ≤ length c → SpellsLits s t c rest
    → SpellsAssertion s (codes "(assert (or" ++ t) c rest
several_read s t [] rest h a = absurd (omega arith)
several_read s t (l ∷ []) rest h a = absurd (omega arith)
several_read s t (l ∷ m ∷ ls) rest h a =
    record {
      front = ap (λ u. codes "(assert (or" ++ u) a.front ∙ sym (all_text (l ∷ m ∷ ls) rest);
      spelled = record { some = omega arith; lits = a.spelled };
    }

pub no_several : (s : Sizes) (t : List ℕ) → SpellsNothing (SpellsLits s t)
    → SpellsNothing (SpellsAssertion s (codes "(assert (or" ++ t))
no_several s t h c rest a = h c rest (several s t c rest a).1

pub too_few : (s : Sizes) (t : List ℕ) (c : List Lit) (rest : List ℕ) → SpellsLits s t c rest → length c < 2
    → SpellsNothing (SpellsAssertion s (codes "(assert (or" ++ t))
too_few s t c rest a h d q b =
    let w = several s t d q b in
    let one = one_items spaced_lit (IsSpelledLit s) lits_end (SpellsSpaced s) (are_lits s) t c d rest q a w.1 in
    let same = ap length one.value in
    let more = w.0 in
    absurd (omega (arith, same, more, h))

-- one literal
record HasOne (s : Sizes) (t : List ℕ) (c : List Lit) (rest : List ℕ) : Type 0 where
  l : Lit
  is : c ≡ l ∷ []
  lit : SpellsLit s t l (41 ∷ 10 ∷ rest)

single : (s : Sizes) (t : List ℕ) (c : List Lit) (rest : List ℕ) → IsNotFront (codes "(or") t
    → SpellsAssertion s (codes "(assert " ++ t) c rest → HasOne s t c rest
single s t [] rest n a = let k = a.spelled.some in absurd (omega (arith, k))
single s t (l ∷ []) rest n a =
    record {
      l = l;
      is = refl;
      lit = record {
        front = append_cancel_left (codes "(assert ") t (lit_text l ++ (41 ∷ 10 ∷ rest)) (a.front ∙ one_text l rest);
        spelled = All-head (IsSpelledLit s) l [] a.spelled.lits;
        ends = ends_lit l.positive l.atom 41 (10 ∷ rest) refl;
      };
    }
single s t (l ∷ m ∷ ls) rest n a =
    absurd (n (flat_map spaced_lit (l ∷ m ∷ ls) ++ (lits_end ++ rest))
    (append_cancel_left (codes "(assert ") t
    (codes "(or" ++ (flat_map spaced_lit (l ∷ m ∷ ls) ++ (lits_end ++ rest)))
    (a.front ∙ all_text (l ∷ m ∷ ls) rest)))

pub single_read : (s : Sizes) (t middle : List ℕ) (l : Lit) (rest : List ℕ) → SpellsLit s t l middle
    → middle ≡ codes ")\n" ++ rest → SpellsAssertion s (codes "(assert " ++ t) (l ∷ []) rest
single_read s t middle l rest a e =
    record {
      front = ap (λ u. codes "(assert " ++ u) (a.front ∙ ap (λ u. lit_text l ++ u) e) ∙ sym (one_text l rest);
      spelled = record {
        some = omega arith;
        lits = All-cons (IsSpelledLit s) l [] a.spelled (λ k d h. absurd (omega arith));
      };
    }

pub no_single : (s : Sizes) (t : List ℕ) → IsNotFront (codes "(or") t → SpellsNothing (SpellsLit s t)
    → SpellsNothing (SpellsAssertion s (codes "(assert " ++ t))
no_single s t n h c rest a = let w = single s t c rest n a in h w.l (41 ∷ 10 ∷ rest) w.lit

pub no_single_end : (s : Sizes) (t middle : List ℕ) (l : Lit) → IsNotFront (codes "(or") t → SpellsLit s t l middle
    → IsNotFront (codes ")\n") middle → SpellsNothing (SpellsAssertion s (codes "(assert " ++ t))
no_single_end s t middle l n a h c rest b =
    let w = single s t c rest n b in
    let one = one_lit s t l w.l middle (41 ∷ 10 ∷ rest) a w.lit in
    h rest one.rest

pub no_assertion : (s : Sizes) (text : List ℕ) → IsNotFront (codes "(assert (or") text
    → IsNotFront (codes "(assert ") text → SpellsNothing (SpellsAssertion s text)
no_assertion s text o a [] rest h = let k = h.spelled.some in absurd (omega (arith, k))
no_assertion s text o a (l ∷ []) rest h = a _ (h.front ∙ one_text l rest)
no_assertion s text o a (l ∷ m ∷ ls) rest h = o _ (h.front ∙ all_text (l ∷ m ∷ ls) rest)

pub not_or : (text t : List ℕ) → IsNotFront (codes "(assert (or") text → text ≡ codes "(assert " ++ t
    → IsNotFront (codes "(or") t
not_or text t h e rest f = h rest (e ∙ ap (λ u. codes "(assert " ++ u) f)

one_assertion : (s : Sizes) (text : List ℕ) (c d : List Lit) (r q : List ℕ) → SpellsAssertion s text c r
    → SpellsAssertion s text d q → AreOne c d r q
one_assertion s text [] d r q a b = let k = a.spelled.some in absurd (omega (arith, k))
one_assertion s text (l ∷ []) d r q a b =
    let t = lit_text l ++ (41 ∷ 10 ∷ r) in
    let e = a.front ∙ one_text l r in
    let n : IsNotFront (codes "(or") t = λ rest f. not_signed l.positive l.atom rest (41 ∷ 10 ∷ r) (sym f) in
    let w = single s t d q n (record { front = sym e ∙ b.front; spelled = b.spelled }) in
    let one =
    one_lit s t l w.l (41 ∷ 10 ∷ r) (41 ∷ 10 ∷ q)
    (record {
      front = refl;
      spelled = All-head (IsSpelledLit s) l [] a.spelled.lits;
      ends = ends_lit l.positive l.atom 41 (10 ∷ r) refl;
    }) w.lit in
    let f = one.rest in
    let rest : r ≡ q = cc in
    record { value = ap (λ m. m ∷ []) one.value ∙ sym w.is; rest = rest }
one_assertion s text (l ∷ m ∷ ls) d r q a b =
    let t = flat_map spaced_lit (l ∷ m ∷ ls) ++ (lits_end ++ r) in
    let e = a.front ∙ all_text (l ∷ m ∷ ls) r in
    let w = several s t d q (record { front = sym e ∙ b.front; spelled = b.spelled }) in
    one_items spaced_lit (IsSpelledLit s) lits_end (SpellsSpaced s) (are_lits s) t (l ∷ m ∷ ls) d r q
    (record { front = refl; spelled = a.spelled.lits }) w.1

not_foot : (c : List Lit) (r q : List ℕ) → assertion_text c ++ r ≡ foot_text ++ q → ⊥
not_foot [] r q e = let k : ◌≡◌ {A = ℕ} 97 99 = second 40 97 40 99 _ _ e in absurd (omega (arith, k))
not_foot (l ∷ []) r q e = let k : ◌≡◌ {A = ℕ} 97 99 = second 40 97 40 99 _ _ e in absurd (omega (arith, k))
not_foot (l ∷ m ∷ ls) r q e = let k : ◌≡◌ {A = ℕ} 97 99 = second 40 97 40 99 _ _ e in absurd (omega (arith, k))

-- assertions are items before the end of a script
pub are_assertions : (s : Sizes) → AreItems assertion_text (IsSpelledAssertion s) foot_text (SpellsAssertion s)
are_assertions s =
    record {
      one = one_assertion s;
      front = λ text x r a. a.front;
      is = λ text x r a. a.spelled;
      before = λ x xs r w. record { front = refl; spelled = w };
      apart = not_foot;
    }
