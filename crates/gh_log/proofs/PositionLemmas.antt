-- Numbers, each after a space, to the end of a line.
use Rattle.std.proofs.Common.{◌≡◌, ℕ, ◌≤◌, List, [], ◌∷◌, ◌++◌, refl, sym, ◌∙◌, ap, subst, arith, append_assoc}
use Rattle.std.specs.Fmt.{decimal}
use Rattle.std.proofs.lemmas.List.{append-nil}
use Rattle.std.proofs.lemmas.List.Elements.{All-head, All-tail, All-cons}
use Rattle.gh_log.specs.Texts.{numbers_text}
use Rattle.gh_log.specs.Reading.{SpellsNothing, IsNotNext, EndsNumber, SpellsNumber, SpellsNumbers}
use Rattle.gh_log.proofs.NumberLemmas.{AreOne, one_number}
use Rattle.gh_log.proofs.AtomLemmas.{ends_or_more, Goes}

-- a number that the grammar can spell
abbrev pub IsNumber : ℕ → Type 0
IsNumber n = n ≤ 4294967295

abbrev pub SpellsOne : List ℕ → ℕ → List ℕ → Type 0
SpellsOne = SpellsNumber 4294967295

ends_numbers : (ns : List ℕ) (rest : List ℕ) → EndsNumber (numbers_text ns ++ 10 ∷ rest)
ends_numbers [] rest = refl
ends_numbers (n ∷ ns) rest = refl

pub record HasNumber (text : List ℕ) (n : ℕ) (ns : List ℕ) (rest : List ℕ) : Type 0 where
  pub middle : List ℕ
  pub after : List ℕ
  pub front : text ≡ 32 ∷ middle
  pub first : SpellsOne middle n after
  pub others : SpellsNumbers after ns rest

pub first_number : (text : List ℕ) (n : ℕ) (ns rest : List ℕ) → SpellsNumbers text (n ∷ ns) rest
    → HasNumber text n ns rest
first_number text n ns rest s =
    record {
      middle = (decimal n ++ numbers_text ns) ++ 10 ∷ rest;
      after = numbers_text ns ++ 10 ∷ rest;
      front = s.front;
      first = record {
        front = append_assoc (decimal n) (numbers_text ns) (10 ∷ rest);
        within = All-head IsNumber n ns s.within;
        ends = ends_numbers ns rest;
      };
      others = record { front = refl; within = All-tail IsNumber n ns s.within };
    }

number_first : (text middle after rest : List ℕ) (n : ℕ) (ns : List ℕ) → text ≡ 32 ∷ middle → SpellsOne middle n after
    → SpellsNumbers after ns rest → SpellsNumbers text (n ∷ ns) rest
number_first text middle after rest n ns e a b =
    record {
      front =
          e ∙ ap (λ t. 32 ∷ t) (a.front ∙ ap (λ t. decimal n ++ t) b.front
          ∙ sym (append_assoc (decimal n) (numbers_text ns) (10 ∷ rest)));
      within = All-cons IsNumber n ns a.within b.within;
    }

one_first : (text : List ℕ) (n m : ℕ) (r q : List ℕ) → SpellsOne text n r → SpellsOne text m q → AreOne n m r q
one_first text n m r q a b =
    one_number n m r q (omega (arith, a.within)) (omega (arith, b.within)) a.ends b.ends (sym a.front ∙ b.front)

pub one_numbers : (text ns ms r q : List ℕ) → SpellsNumbers text ns r → SpellsNumbers text ms q → AreOne ns ms r q
one_numbers text [] [] r q a b = let f = a.front in let g = b.front in record { value = refl; rest = cc }
one_numbers text [] (m ∷ ms) r q a b = let g = first_number text m ms q b in
    absurd (ends_or_more r g.middle (sym a.front ∙ g.front))
one_numbers text (n ∷ ns) [] r q a b = let g = first_number text n ns r a in
    absurd (ends_or_more q g.middle (sym b.front ∙ g.front))
one_numbers text (n ∷ ns) (m ∷ ms) r q a b =
    let f = first_number text n ns r a in let g = first_number text m ms q b in
    let fe = f.front in let ge = g.front in
    let middles : g.middle ≡ f.middle = cc in
    let one = one_first f.middle n m f.after g.after f.first (subst (λ t. SpellsOne t m g.after) middles g.first) in
    let more = one_numbers f.after ns ms r q f.others (subst (λ t. SpellsNumbers t ms q) (sym one.rest) g.others) in
    let here : n ≡ m = one.value in
    let there : ns ≡ ms = more.value in
    record { value = cc; rest = more.rest }

pub no_numbers_here : (text : List ℕ) → IsNotNext 10 text → IsNotNext 32 text → SpellsNothing (SpellsNumbers text)
no_numbers_here text h k [] rest s = subst (IsNotNext 10) s.front h refl
no_numbers_here text h k (n ∷ ns) rest s = subst (IsNotNext 32) (first_number text n ns rest s).front k refl

pub no_number_here : (text middle : List ℕ) → text ≡ 32 ∷ middle → SpellsNothing (SpellsOne middle)
    → SpellsNothing (SpellsNumbers text)
no_number_here text middle e h [] rest s = ends_or_more rest middle (sym s.front ∙ e)
no_number_here text middle e h (n ∷ ns) rest s =
    let f = first_number text n ns rest s in
    let fe = f.front in
    let middles : f.middle ≡ middle = cc in
    h n f.after (subst (λ t. SpellsOne t n f.after) middles f.first)

pub goes_numbers_none : (text ns : List ℕ) → ns ≡ [] → Goes (SpellsNumbers text) (SpellsNumbers text) (λ ms. ns ++ ms)
goes_numbers_none text ns e =
    record { forth = λ ms rest s. subst (λ b. SpellsNumbers text (b ++ ms) rest) (sym e) s; back = λ h. h }

pub goes_number : (whole text middle after ns new : List ℕ) (n : ℕ)
    → Goes (SpellsNumbers text) (SpellsNumbers whole) (λ ms. ns ++ ms) → text ≡ 32 ∷ middle → SpellsOne middle n after
    → new ≡ ns ++ n ∷ [] → Goes (SpellsNumbers after) (SpellsNumbers whole) (λ ms. new ++ ms)
goes_number whole text middle after ns new n g e s f =
    record {
      forth = λ ms rest h.
          subst (λ b. SpellsNumbers whole b rest) (sym (ap (λ b. b ++ ms) f ∙ append_assoc ns (n ∷ []) ms))
          (g.forth (n ∷ ms) rest (number_first text middle after rest n ms e s h));
      back = λ h. g.back (no_more text middle after n e s h);
    }
  where
    no_more : (text middle after : List ℕ) (n : ℕ) → text ≡ 32 ∷ middle → SpellsOne middle n after
        → SpellsNothing (SpellsNumbers after) → SpellsNothing (SpellsNumbers text)
    no_more text middle after n e s h [] rest k = ends_or_more rest middle (sym k.front ∙ e)
    no_more text middle after n e s h (m ∷ ms) rest k =
        let f = first_number text m ms rest k in
        let fe = f.front in
        let middles : f.middle ≡ middle = cc in
        let one = one_first middle n m after f.after s (subst (λ t. SpellsOne t m f.after) middles f.first) in
        h ms rest (subst (λ t. SpellsNumbers t ms rest) (sym one.rest) f.others)

pub goes_numbers_end : (whole text after ns : List ℕ) → Goes (SpellsNumbers text) (SpellsNumbers whole) (λ ms. ns ++ ms)
    → text ≡ 10 ∷ after → SpellsNumbers whole ns after
goes_numbers_end whole text after ns g e =
    subst (λ b. SpellsNumbers whole b after) (append-nil ns)
    (g.forth [] after (record { front = e; within = λ k d l. absurd (omega arith) }))
