-- What is declared, at the front of a text.
use Rattle.std.proofs.Common.{◌≡◌, ◌≢◌, ℕ, zero, suc, ◌+◌, ◌<◌, ◌≤◌, List, ◌++◌, refl, sym, ◌∙◌, ap, subst, arith}
use Rattle.std.proofs.Common.{append_assoc}
use Rattle.std.specs.List.{flat_map, range_with_len}
use Rattle.std.specs.Fmt.{decimal}
use Rattle.std.proofs.lemmas.List.{append_cancel_left}
use Rattle.gh_log.specs.Reading.{SpellsNothing, EndsNumber, SpellsNumber, SpellsText, IsNotFront}
use Rattle.gh_log.proofs.NumberLemmas.{AreOne, one_number}
use Rattle.gh_log.proofs.AtomLemmas.{Goes}
use Rattle.gh_smt.specs.declared.kind.Kind.{Kind}
use Rattle.gh_smt.specs.declared.kind.Kind.TheVariants.{Term, Version, Definition}
use Rattle.gh_smt.specs.Kinds.{declared_text, start_text}
use Rattle.gh_smt.specs.Reading.{SpellsDeclared}

-- a number between two texts
around_rest : (before d after text middle rest : List ℕ) → text ≡ before ++ middle
    → text ≡ (before ++ (d ++ after)) ++ rest → middle ≡ d ++ (after ++ rest)
around_rest before d after text middle rest e f =
    append_cancel_left before middle (d ++ (after ++ rest))
    (sym e ∙ f ∙ append_assoc before (d ++ after) rest ∙ ap (λ t. before ++ t) (append_assoc d after rest))

abbrev Ends : List ℕ → Type 0
Ends after = (rest : List ℕ) → EndsNumber (after ++ rest)

pub no_found : (before after text middle : List ℕ) (n : ℕ) → n < 4294967296 → Ends after → text ≡ before ++ middle
    → SpellsNothing (SpellsNumber 4294967295 middle)
    → SpellsNothing (SpellsText (before ++ (decimal n ++ after)) text)
no_found before after text middle n small ends e h u rest f =
    h n (after ++ rest) (record {
      front = around_rest before (decimal n) after text middle rest e f;
      within = omega (arith, small);
      ends = ends rest;
    })

pub other_found : (before after text middle left : List ℕ) (n k : ℕ) → n < 4294967296 → Ends after
    → text ≡ before ++ middle → SpellsNumber 4294967295 middle k left → k ≢ n
    → SpellsNothing (SpellsText (before ++ (decimal n ++ after)) text)
other_found before after text middle left n k small ends e s other u rest f =
    let one =
    one_number k n left (after ++ rest) (omega (arith, s.within)) (omega (arith, small)) s.ends (ends rest)
    (sym s.front ∙ around_rest before (decimal n) after text middle rest e f) in
    other one.value

pub not_after : (before after text middle left : List ℕ) (n k : ℕ) → n < 4294967296 → Ends after
    → text ≡ before ++ middle → SpellsNumber 4294967295 middle k left → IsNotFront after left
    → SpellsNothing (SpellsText (before ++ (decimal n ++ after)) text)
not_after before after text middle left n k small ends e s h u rest f =
    let one =
    one_number k n left (after ++ rest) (omega (arith, s.within)) (omega (arith, small)) s.ends (ends rest)
    (sym s.front ∙ around_rest before (decimal n) after text middle rest e f) in
    h rest one.rest

-- two texts, one after the other
pub no_first : (a b text : List ℕ) → SpellsNothing (SpellsText a text) → SpellsNothing (SpellsText (a ++ b) text)
no_first a b text h u rest e = h u (b ++ rest) (e ∙ append_assoc a b rest)

pub no_second : (a b text middle : List ℕ) → text ≡ a ++ middle → SpellsNothing (SpellsText b middle)
    → SpellsNothing (SpellsText (a ++ b) text)
no_second a b text middle t h u rest e =
    h u rest (append_cancel_left a middle (b ++ rest) (sym t ∙ e ∙ append_assoc a b rest))

pub three_texts : (a b c text m n rest : List ℕ) → text ≡ a ++ m → m ≡ b ++ n → n ≡ c ++ rest
    → text ≡ (a ++ (b ++ c)) ++ rest
three_texts a b c text m n rest p q r =
    p ∙ ap (λ t. a ++ t) (q ∙ ap (λ t. b ++ t) r ∙ sym (append_assoc b c rest)) ∙ sym (append_assoc a (b ++ c) rest)

-- what a number declares begins so
starts : (kind : Kind) (i : ℕ) (rest : List ℕ) → (t : List ℕ) × (declared_text kind i ++ rest ≡ start_text kind ++ t)
starts Term i rest = (_, refl)
starts Version i rest = (_, refl)
starts Definition i rest = (_, refl)

-- and it is no other start
pub not_none : (kind : Kind) (limit k : ℕ) (text : List ℕ) → (IsNotFront (start_text kind) text → ⊥) → (rest : List ℕ)
    → SpellsDeclared kind limit k text 0 rest → ⊥
not_none kind limit k text more rest s = more (subst (IsNotFront (start_text kind)) (sym s.front) s.ends)

pub first_declared : (kind : Kind) (limit k n : ℕ) (text rest : List ℕ) → SpellsDeclared kind limit k text (suc n) rest
    → (middle : List ℕ) × (text ≡ declared_text kind k ++ middle) × SpellsDeclared kind limit (k + 1) middle n rest
first_declared kind limit k n text rest s =
    let w = s.within in (
      flat_map (declared_text kind) (range_with_len (k + 1) n) ++ rest,
      s.front ∙ append_assoc (declared_text kind k) (flat_map (declared_text kind) (range_with_len (k + 1) n)) rest,
      record { front = refl; within = omega (arith, w); ends = s.ends },
    )

declared_first : (kind : Kind) (limit k n : ℕ) (text middle rest : List ℕ) → text ≡ declared_text kind k ++ middle
    → SpellsDeclared kind limit (k + 1) middle n rest → SpellsDeclared kind limit k text (suc n) rest
declared_first kind limit k n text middle rest e s =
    let w = s.within in
    record {
      front =
          e ∙ ap (λ t. declared_text kind k ++ t) s.front
          ∙ sym (append_assoc (declared_text kind k) (flat_map (declared_text kind) (range_with_len (k + 1) n)) rest);
      within = omega (arith, w);
      ends = s.ends;
    }

pub one_declared : (kind : Kind) (limit k : ℕ) (text : List ℕ) (n m : ℕ) (r q : List ℕ)
    → SpellsDeclared kind limit k text n r → SpellsDeclared kind limit k text m q → AreOne n m r q
one_declared kind limit k text zero zero r q a b = record { value = refl; rest = sym a.front ∙ b.front }
one_declared kind limit k text zero (suc m) r q a b =
    let f = first_declared kind limit k m text q b in let t = starts kind k f.0 in
    absurd (a.ends t.0 (sym a.front ∙ f.1 ∙ t.1))
one_declared kind limit k text (suc n) zero r q a b =
    let f = first_declared kind limit k n text r a in let t = starts kind k f.0 in
    absurd (b.ends t.0 (sym b.front ∙ f.1 ∙ t.1))
one_declared kind limit k text (suc n) (suc m) r q a b =
    let f = first_declared kind limit k n text r a in let g = first_declared kind limit k m text q b in
    let same : g.0 ≡ f.0 = append_cancel_left (declared_text kind k) g.0 f.0 (sym g.1 ∙ f.1) in
    let one =
    one_declared kind limit (k + 1) f.0 n m r q f.2
    (subst (λ t. SpellsDeclared kind limit (k + 1) t m q) same g.2) in
    record { value = ap suc one.value; rest = one.rest }

abbrev pub GoesDeclared : Kind → ℕ → ℕ → List ℕ → List ℕ → Type 0
GoesDeclared kind limit count text whole =
    Goes (SpellsDeclared kind limit count text) (SpellsDeclared kind limit 0 whole) (λ n. count + n)

-- the count of what is declared has come to its limit
pub past_limit : (kind : Kind) (limit count : ℕ) (text : List ℕ) → count ≡ limit
    → (IsNotFront (start_text kind) text → ⊥) → SpellsNothing (SpellsDeclared kind limit count text)
past_limit kind limit count text e more zero rest s = not_none kind limit count text more rest s
past_limit kind limit count text e more (suc n) rest s = let w = s.within in absurd (omega (arith, w, e))

pub not_declared : (kind : Kind) (limit count : ℕ) (text : List ℕ) → (IsNotFront (start_text kind) text → ⊥)
    → SpellsNothing (SpellsText (declared_text kind count) text) → SpellsNothing (SpellsDeclared kind limit count text)
not_declared kind limit count text more h zero rest s = not_none kind limit count text more rest s
not_declared kind limit count text more h (suc n) rest s = let f = first_declared kind limit count n text rest s in
    h tt f.0 f.1

pub declared_more : (kind : Kind) (limit count : ℕ) (text after whole : List ℕ)
    → GoesDeclared kind limit count text whole → (IsNotFront (start_text kind) text → ⊥)
    → text ≡ declared_text kind count ++ after
    → GoesDeclared kind limit (count + 1) after whole
declared_more kind limit count text after whole g more e =
    record {
      forth = λ n rest s.
          let same : count + suc n ≡ count + 1 + n = omega arith in
          subst (λ i. SpellsDeclared kind limit 0 whole i rest) same
          (g.forth (suc n) rest (declared_first kind limit count n text after rest e s));
      back = λ h. g.back (none_more kind limit count text after more e h);
    }
  where
    none_more : (kind : Kind) (limit count : ℕ) (text after : List ℕ) → (IsNotFront (start_text kind) text → ⊥)
        → text ≡ declared_text kind count ++ after → SpellsNothing (SpellsDeclared kind limit (count + 1) after)
        → SpellsNothing (SpellsDeclared kind limit count text)
    none_more kind limit count text after more e h zero rest s = not_none kind limit count text more rest s
    none_more kind limit count text after more e h (suc n) rest s =
        let f = first_declared kind limit count n text rest s in
        let same : f.0 ≡ after = append_cancel_left (declared_text kind count) f.0 after (sym f.1 ∙ e) in
        h n rest (subst (λ t. SpellsDeclared kind limit (count + 1) t n rest) same f.2)

pub declared_end : (kind : Kind) (limit count : ℕ) (text whole : List ℕ) → GoesDeclared kind limit count text whole
    → count ≤ limit → IsNotFront (start_text kind) text → SpellsDeclared kind limit 0 whole count text
declared_end kind limit count text whole g within ends =
    let same : count + 0 ≡ count = omega arith in
    subst (λ i. SpellsDeclared kind limit 0 whole i text) same
    (g.forth 0 text (record { front = refl; within = omega (arith, within); ends = ends }))

pub goes_declared_none : (kind : Kind) (limit : ℕ) (text : List ℕ) → GoesDeclared kind limit 0 text text
goes_declared_none kind limit text =
    record {
      forth = λ n rest s. let same : n ≡ 0 + n = omega arith in
          subst (λ i. SpellsDeclared kind limit 0 text i rest) same s;
      back = λ h. h;
    }
