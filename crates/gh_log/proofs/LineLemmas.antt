-- Lines and headers at the front of a text.
use Rattle.std.proofs.Common.{◌≡◌, ◌≢◌, inl, inr, ℕ, zero, suc, ◌+◌, ◌-◌, ◌<◌, ◌≤◌, List, [], ◌∷◌, ◌++◌, length, take}
use Rattle.std.proofs.Common.{set, replicate, codes, refl, sym, ◌∙◌, ap, subst, arith, append_assoc, add-one}
use Rattle.std.specs.List.{flat_map}
use Rattle.std.specs.Fmt.{decimal}
use Rattle.std.proofs.lemmas.List.{append-nil, append_cancel_left, length-take-le}
use Rattle.std.proofs.Math.ListN.{length-set}
use Rattle.std.proofs.lemmas.List.Elements.{All-head, All-tail, All-cons}
use Rattle.gh_base.specs.declared.atom.Term.{Term}
use Rattle.gh_base.specs.declared.atom.Lit.{Lit}
use Rattle.gh_base.specs.Atoms.{term}
use Rattle.gh_inst.specs.declared.naming.InstanceName.{InstanceName}
use Rattle.gh_inst.specs.Instances.{tuple_of, IsPadded}
use Rattle.gh_log.specs.Lines.{LogLine}
use Rattle.gh_log.specs.Lines as line
use Rattle.gh_log.specs.Texts.{term_text, lits_text, numbers_text, header_text}
use Rattle.gh_log.specs.Spelled.{IsVersion, IsOfVersion}
use Rattle.gh_log.specs.Reading.{SpellsNothing, SpellsText, IsNotNext, EndsNumber, SpellsNumber, SpellsBytes}
use Rattle.gh_log.specs.Reading.{SpellsClause, SpellsShown, SpellsNumbers, SpellsTerms, ArePadded, SpellsParts}
use Rattle.gh_log.specs.Reading.{SpellsLine, first_line, SpellsVersion, SpellsHeader}
use Rattle.gh_log.proofs.NumberLemmas.{AreOne, one_number, one_bytes}
use Rattle.gh_log.proofs.AtomLemmas.{IsByte, a_byte, ends_or_more, sign_ends, one_lits, Goes}

abbrev pub IsSmallTerm : Term → Type 0
IsSmallTerm t = t.0 ≤ 255

pub ends_terms : (ts : List Term) (rest : List ℕ) → EndsNumber (flat_map term_text ts ++ 10 ∷ rest)
ends_terms [] rest = refl
ends_terms (t ∷ ts) rest = refl

pub record HasTerm (k : ℕ) (text : List ℕ) (t : Term) (ts : List Term) (rest : List ℕ) : Type 0 where
  pub after : List ℕ
  pub first : SpellsBytes 32 1 text (t.0 ∷ []) after
  pub others : SpellsTerms (k + 1) after ts rest

one_part : (d f x : List ℕ) → (d ++ f) ++ x ≡ (d ++ []) ++ (f ++ x)
one_part d f x = simp (append_assoc, append-nil)

pub first_term : (k : ℕ) (text : List ℕ) (t : Term) (ts : List Term) (rest : List ℕ) → SpellsTerms k text (t ∷ ts) rest
    → HasTerm k text t ts rest
first_term k text t ts rest s =
    let few = s.few in
    record {
      after = flat_map term_text ts ++ 10 ∷ rest;
      first = record {
        front = s.front ∙ ap (λ x. 32 ∷ x) (one_part (decimal t.0) (flat_map term_text ts) (10 ∷ rest));
        counted = refl;
        within = a_byte t.0 [] (All-head IsSmallTerm t ts s.within) (λ k d l. absurd (omega arith));
        ends = ends_terms ts rest;
      };
      others = record { front = refl; few = omega arith; within = All-tail IsSmallTerm t ts s.within };
    }

pub term_first : (k : ℕ) (text after : List ℕ) (t : Term) (ts : List Term) (rest : List ℕ)
    → SpellsBytes 32 1 text (t.0 ∷ []) after → SpellsTerms (k + 1) after ts rest → SpellsTerms k text (t ∷ ts) rest
term_first k text after t ts rest a b =
    let few = b.few in
    record {
      front =
          a.front ∙ ap (λ x. (32 ∷ (decimal t.0 ++ [])) ++ x) b.front
          ∙ ap (λ x. 32 ∷ x) (sym (one_part (decimal t.0) (flat_map term_text ts) (10 ∷ rest)));
      few = omega arith;
      within = All-cons IsSmallTerm t ts (All-head IsByte t.0 [] a.within) b.within;
    }

same_term : (t u : Term) → t.0 ≡ u.0 → t ≡ u
same_term t u e = ap term e

pub head_is : (x y : ℕ) (xs ys : List ℕ) → x ∷ xs ≡ y ∷ ys → x ≡ y
head_is x y xs ys e = cc

pub one_terms : (k : ℕ) (text : List ℕ) (ts us : List Term) (r q : List ℕ) → SpellsTerms k text ts r
    → SpellsTerms k text us q → AreOne ts us r q
one_terms k text [] [] r q a b = let f = a.front in let g = b.front in record { value = refl; rest = cc }
one_terms k text [] (u ∷ us) r q a b = let g = first_term k text u us q b in
    absurd (ends_or_more r _ (sym a.front ∙ g.first.front))
one_terms k text (t ∷ ts) [] r q a b = let g = first_term k text t ts r a in
    absurd (ends_or_more q _ (sym b.front ∙ g.first.front))
one_terms k text (t ∷ ts) (u ∷ us) r q a b =
    let f = first_term k text t ts r a in let g = first_term k text u us q b in
    let one = one_bytes 32 1 text (t.0 ∷ []) (u.0 ∷ []) f.after g.after refl f.first g.first in
    let more =
    one_terms (k + 1) f.after ts us r q f.others
    (subst (λ x. SpellsTerms (k + 1) x us q) (sym one.rest) g.others) in
    let here : t ≡ u = same_term t u (head_is t.0 u.0 [] [] one.value) in
    let there : ts ≡ us = more.value in
    record { value = cc; rest = more.rest }

pub no_terms_here : (k : ℕ) (text : List ℕ) → IsNotNext 10 text → SpellsNothing (SpellsBytes 32 1 text)
    → SpellsNothing (SpellsTerms k text)
no_terms_here k text n h [] rest s = subst (IsNotNext 10) s.front n refl
no_terms_here k text n h (t ∷ ts) rest s = let f = first_term k text t ts rest s in h (t.0 ∷ []) f.after f.first

pub no_fifth : (k : ℕ) (text : List ℕ) → 4 ≤ k → IsNotNext 10 text → SpellsNothing (SpellsTerms k text)
no_fifth k text four n [] rest s = subst (IsNotNext 10) s.front n refl
no_fifth k text four n (t ∷ ts) rest s = let few = s.few in absurd (omega (arith, few))

pub no_more_terms : (k : ℕ) (text after : List ℕ) (t : Term) → SpellsBytes 32 1 text (t.0 ∷ []) after
    → SpellsNothing (SpellsTerms (k + 1) after) → SpellsNothing (SpellsTerms k text)
no_more_terms k text after t a h [] rest s = ends_or_more rest _ (sym s.front ∙ a.front)
no_more_terms k text after t a h (u ∷ us) rest s =
    let f = first_term k text u us rest s in
    let one = one_bytes 32 1 text (t.0 ∷ []) (u.0 ∷ []) after f.after refl a f.first in
    h us rest (subst (λ x. SpellsTerms (k + 1) x us rest) (sym one.rest) f.others)

-- what is written at the next place of the four terms
set_next : {X : Type 0} (xs : List X) (k : ℕ) (x : X) → k < length xs → take (suc k) (set xs k x) ≡ take k xs ++ x ∷ []
set_next [] k x h = absurd (omega arith)
set_next (y ∷ ys) zero x h = refl
set_next (y ∷ ys) (suc k) x h = ap (λ t. y ∷ t) (set_next ys k x (omega (arith, h)))

front_next : {X : Type 0} (xs : List X) (k : ℕ) (x : X) → k < length xs
    → take (k + 1) (set xs k x) ≡ take k xs ++ x ∷ []
front_next xs k x h = ap (λ n. take n (set xs k x)) (add-one k) ∙ set_next xs k x h

set_in_zeros : {X : Type 0} (front : List X) (n : ℕ) (z x : X)
    → set (front ++ replicate (suc n) z) (length front) x ≡ front ++ x ∷ replicate n z
set_in_zeros [] n z x = refl
set_in_zeros (y ∷ front) n z x = ap (λ t. y ∷ t) (set_in_zeros front n z x)

pub padded_more : (terms after : List Term) (k : ℕ) (t : Term) → ArePadded terms k → k < 4 → after ≡ set terms k t
    → ArePadded after (k + 1)
padded_more terms after k t p h e =
    let four = p.four in
    let front = take k terms in
    let long : length front ≡ k = length-take-le k terms (omega arith) in
    let left : 4 - k ≡ suc (4 - (k + 1)) = omega arith in
    let more : take (k + 1) after ≡ front ++ t ∷ [] = ap (take (k + 1)) e ∙ front_next terms k t (omega arith) in
    let zeros : terms ≡ front ++ replicate (suc (4 - (k + 1))) (term 0) =
    p.zeros ∙ ap (λ n. front ++ replicate n (term 0)) left in
    record {
      few = omega arith;
      four = ap length e ∙ length-set terms k t ∙ four;
      zeros =
          e ∙ ap (λ ts. set ts k t) zeros
          ∙ ap (λ n. set (front ++ replicate (suc (4 - (k + 1))) (term 0)) n t) (sym long)
          ∙ set_in_zeros front (4 - (k + 1)) (term 0) t
          ∙ sym (append_assoc front (t ∷ []) (replicate (4 - (k + 1)) (term 0)))
          ∙ ap (λ ts. ts ++ replicate (4 - (k + 1)) (term 0)) (sym more);
    }

pub padded_none : ArePadded (replicate 4 (term 0)) 0
padded_none = record { few = omega arith; four = refl; zeros = refl }

pub goes_term : (k : ℕ) (whole text after : List ℕ) (terms new : List Term) (t : Term)
    → Goes (SpellsTerms k text) (SpellsTerms 0 whole) (λ ts. take k terms ++ ts)
    → SpellsBytes 32 1 text (t.0 ∷ []) after → ArePadded terms k → k < 4 → new ≡ set terms k t
    → Goes (SpellsTerms (k + 1) after) (SpellsTerms 0 whole) (λ ts. take (k + 1) new ++ ts)
goes_term k whole text after terms new t g a p h e =
    let four = p.four in
    let front : take (k + 1) new ≡ take k terms ++ t ∷ [] =
    ap (take (k + 1)) e ∙ front_next terms k t (omega (arith, four)) in
    record {
      forth = λ ts rest s.
          subst (λ b. SpellsTerms 0 whole b rest)
          (sym (ap (λ b. b ++ ts) front ∙ append_assoc (take k terms) (t ∷ []) ts))
          (g.forth (t ∷ ts) rest (term_first k text after t ts rest a s));
      back = λ r. g.back (no_more_terms k text after t a r);
    }

pub goes_terms_end : (k : ℕ) (whole text after : List ℕ) (terms : List Term) → k ≤ 4
    → Goes (SpellsTerms k text) (SpellsTerms 0 whole) (λ ts. take k terms ++ ts) → text ≡ 10 ∷ after
    → SpellsTerms 0 whole (take k terms) after
goes_terms_end k whole text after terms few g e =
    subst (λ b. SpellsTerms 0 whole b after) (append-nil (take k terms))
    (g.forth [] after (record { front = e; few = omega (arith, few); within = λ k d l. absurd (omega arith) }))

-- a name after its letter
pub record HasName (text : List ℕ) (name : InstanceName) (rest : List ℕ) : Type 0 where
  pub middle : List ℕ
  pub numbers : SpellsBytes 32 2 text (name.row ∷ name.version ∷ []) middle
  pub terms : SpellsTerms 0 middle (tuple_of name) rest

regroup : (r v t rest : List ℕ)
    → ((((r ++ 32 ∷ []) ++ v) ++ t) ++ 10 ∷ []) ++ rest ≡ (r ++ 32 ∷ (v ++ [])) ++ (t ++ 10 ∷ rest)
regroup r v t rest = simp (append_assoc, append-nil)

pub tail_is : (x y : ℕ) (xs ys : List ℕ) → x ∷ xs ≡ y ∷ ys → xs ≡ ys
tail_is x y xs ys e = cc

pub name_parts : (text : List ℕ) (name : InstanceName) (rest : List ℕ) → SpellsParts (97 ∷ text) (line.Axiom name) rest
    → HasName text name rest
name_parts text name rest s =
    let n = s.spelled in
    let arity : name.arity ≡ length (tuple_of name) = ap (λ m. m.arity) n.padded in
    record {
      middle = flat_map term_text (tuple_of name) ++ 10 ∷ rest;
      numbers = record {
        front =
            tail_is 97 97 _ _ s.front
            ∙ ap (λ t. 32 ∷ t) (regroup (decimal name.row) (decimal name.version) (flat_map term_text (tuple_of name))
            rest);
        counted = refl;
        within =
            a_byte name.row (name.version ∷ []) n.row
            (a_byte name.version [] n.version (λ k d l. absurd (omega arith)));
        ends = ends_terms (tuple_of name) rest;
      };
      terms = record { front = refl; few = omega (arith, n.few, arity); within = n.terms };
    }

pub is_padded : (row version arity : ℕ) (terms : List Term) → ArePadded terms arity
    → IsPadded (record { row = row; version = version; terms = terms; arity = arity })
is_padded row version arity terms p =
    let four = p.four in let few = p.few in
    let long : arity ≡ length (take arity terms) = sym (length-take-le arity terms (omega arith)) in
    let zeros : terms ≡ take arity terms ++ replicate (4 - length (take arity terms)) (term 0) =
    p.zeros ∙ ap (λ n. take arity terms ++ replicate (4 - n) (term 0)) long in
    λ i. record { row = row; version = version; terms = zeros i; arity = long i }

pub name_read : (text middle rest : List ℕ) (row version arity : ℕ) (terms : List Term)
    → SpellsBytes 32 2 text (row ∷ version ∷ []) middle → SpellsTerms 0 middle (take arity terms) rest
    → ArePadded terms arity → arity ≢ 0
    → SpellsParts (97 ∷ text) (line.Axiom (record { row = row; version = version; terms = terms; arity = arity }))
    rest
name_read text middle rest row version arity terms a b p some =
    record {
      front = ap (λ t. 97 ∷ t) (a.front ∙ ap (λ t. (32 ∷ (decimal row ++ 32 ∷ (decimal version ++ []))) ++ t) b.front
          ∙ ap (λ t. 32 ∷ t) (sym (regroup (decimal row) (decimal version) (flat_map term_text (take arity terms))
          rest)));
      spelled = record {
        row = All-head IsByte row (version ∷ []) a.within;
        version = All-head IsByte version [] (All-tail IsByte row (version ∷ []) a.within);
        some = omega (arith, some);
        few = p.few;
        terms = b.within;
        padded = is_padded row version arity terms p;
      };
    }

pub no_pair : (text : List ℕ) → SpellsNothing (SpellsBytes 32 2 text)
    → SpellsNothing (λ n. SpellsParts (97 ∷ text) (line.Axiom n))
no_pair text h name rest s = let w = name_parts text name rest s in h (name.row ∷ name.version ∷ []) w.middle w.numbers

pub no_terms : (text middle : List ℕ) (row version : ℕ) → SpellsBytes 32 2 text (row ∷ version ∷ []) middle
    → SpellsNothing (SpellsTerms 0 middle) → SpellsNothing (λ n. SpellsParts (97 ∷ text) (line.Axiom n))
no_terms text middle row version a h name rest s =
    let w = name_parts text name rest s in
    let one =
    one_bytes 32 2 text (row ∷ version ∷ []) (name.row ∷ name.version ∷ []) middle w.middle refl a w.numbers in
    h (tuple_of name) rest (subst (λ t. SpellsTerms 0 t (tuple_of name) rest) (sym one.rest) w.terms)

-- a name has a term
pub no_term : (text middle after : List ℕ) (row version arity : ℕ) (terms : List Term)
    → SpellsBytes 32 2 text (row ∷ version ∷ []) middle → SpellsTerms 0 middle (take arity terms) after → arity ≡ 0
    → SpellsNothing (λ n. SpellsParts (97 ∷ text) (line.Axiom n))
no_term text middle after row version arity terms a b e name rest s =
    let w = name_parts text name rest s in
    let one =
    one_bytes 32 2 text (row ∷ version ∷ []) (name.row ∷ name.version ∷ []) middle w.middle refl a w.numbers in
    let same =
    one_terms 0 middle (take arity terms) (tuple_of name) after rest b
    (subst (λ t. SpellsTerms 0 t (tuple_of name) rest) (sym one.rest) w.terms) in
    let none : [] ≡ tuple_of name = ap (λ k. take k terms) (sym e) ∙ same.value in
    let arity : name.arity ≡ length (tuple_of name) = ap (λ m. m.arity) s.spelled.padded in
    let empty : 0 ≡ length (tuple_of name) = ap length none in
    absurd (omega (arith, s.spelled.some, arity, empty))

-- a line's letter
abbrev pub letter_of : LogLine → ℕ
letter_of (line.Axiom name) = 97
letter_of (line.Clause k) = 103
letter_of (line.Lemma c) = 101
letter_of (line.Learnt c) = 108
letter_of (line.Hinted c hints) = 108
letter_of (line.Delete positions) = 100

pub letter_is : (b : ℕ) (text : List ℕ) (l : LogLine) (rest : List ℕ) → SpellsParts (b ∷ text) l rest → letter_of l ≡ b
letter_is b text (line.Axiom name) rest s = sym (head_is b 97 _ _ s.front)
letter_is b text (line.Clause k) rest s = sym (head_is b 103 _ _ s.front)
letter_is b text (line.Lemma c) rest s = sym (head_is b 101 _ _ s.front)
letter_is b text (line.Learnt c) rest s = sym (head_is b 108 _ _ s.front)
letter_is b text (line.Hinted c hints) rest s = sym (head_is b 108 _ _ s.front)
letter_is b text (line.Delete positions) rest s = sym (head_is b 100 _ _ s.front)

pub no_letter : (version b : ℕ) (text : List ℕ) → b ≢ 97 → b ≢ 103 → b ≢ 101 → b ≢ 108 → b ≢ 100
    → SpellsNothing (SpellsLine version (b ∷ text))
no_letter version b text p q r t u (line.Axiom name) rest s = p (sym (letter_is b text (line.Axiom name) rest s.parts))
no_letter version b text p q r t u (line.Clause k) rest s = q (sym (letter_is b text (line.Clause k) rest s.parts))
no_letter version b text p q r t u (line.Lemma c) rest s = r (sym (letter_is b text (line.Lemma c) rest s.parts))
no_letter version b text p q r t u (line.Learnt c) rest s = t (sym (letter_is b text (line.Learnt c) rest s.parts))
no_letter version b text p q r t u (line.Hinted c hints) rest s =
    t (sym (letter_is b text (line.Hinted c hints) rest s.parts))
no_letter version b text p q r t u (line.Delete positions) rest s =
    u (sym (letter_is b text (line.Delete positions) rest s.parts))

-- a text that a line begins
pub letter_front : (l : LogLine) (text rest : List ℕ) → SpellsParts text l rest
    → (tail : List ℕ) × (text ≡ letter_of l ∷ tail)
letter_front (line.Axiom name) text rest s = (_, s.front)
letter_front (line.Clause k) text rest s = (_, s.front)
letter_front (line.Lemma c) text rest s = (_, s.front)
letter_front (line.Learnt c) text rest s = (_, s.front)
letter_front (line.Hinted c hints) text rest s = (_, s.front)
letter_front (line.Delete positions) text rest s = (_, s.front)

pub no_line_at_end : (version : ℕ) → SpellsNothing (SpellsLine version [])
no_line_at_end version l rest s = let t = letter_front l [] rest s.parts in let e = t.1 in absurd (cc)

-- the kind of a line is that of its letter
pub is_axiom : (l : LogLine) → letter_of l ≡ 97 → (name : InstanceName) × (l ≡ line.Axiom name)
is_axiom (line.Axiom name) e = (name, refl)
is_axiom (line.Clause k) e = absurd (omega (arith, e))
is_axiom (line.Lemma c) e = absurd (omega (arith, e))
is_axiom (line.Learnt c) e = absurd (omega (arith, e))
is_axiom (line.Hinted c hints) e = absurd (omega (arith, e))
is_axiom (line.Delete positions) e = absurd (omega (arith, e))

pub is_ground : (l : LogLine) → letter_of l ≡ 103 → (k : ℕ) × (l ≡ line.Clause k)
is_ground (line.Axiom name) e = absurd (omega (arith, e))
is_ground (line.Clause k) e = (k, refl)
is_ground (line.Lemma c) e = absurd (omega (arith, e))
is_ground (line.Learnt c) e = absurd (omega (arith, e))
is_ground (line.Hinted c hints) e = absurd (omega (arith, e))
is_ground (line.Delete positions) e = absurd (omega (arith, e))

pub is_lemma : (l : LogLine) → letter_of l ≡ 101 → (c : List Lit) × (l ≡ line.Lemma c)
is_lemma (line.Axiom name) e = absurd (omega (arith, e))
is_lemma (line.Clause k) e = absurd (omega (arith, e))
is_lemma (line.Lemma c) e = (c, refl)
is_lemma (line.Learnt c) e = absurd (omega (arith, e))
is_lemma (line.Hinted c hints) e = absurd (omega (arith, e))
is_lemma (line.Delete positions) e = absurd (omega (arith, e))

pub is_learnt : (version : ℕ) (l : LogLine) → version ≡ 1 → IsOfVersion version l → letter_of l ≡ 108
    → (c : List Lit) × (l ≡ line.Learnt c)
is_learnt version (line.Axiom name) v o e = absurd (omega (arith, e))
is_learnt version (line.Clause k) v o e = absurd (omega (arith, e))
is_learnt version (line.Lemma c) v o e = absurd (omega (arith, e))
is_learnt version (line.Learnt c) v o e = (c, refl)
is_learnt version (line.Hinted c hints) v o e = absurd (omega (arith, v, o))
is_learnt version (line.Delete positions) v o e = absurd (omega (arith, e))

pub is_hinted : (version : ℕ) (l : LogLine) → version ≡ 2 → IsOfVersion version l → letter_of l ≡ 108
    → (c : List Lit) × (hints : List ℕ) × (l ≡ line.Hinted c hints)
is_hinted version (line.Axiom name) v o e = absurd (omega (arith, e))
is_hinted version (line.Clause k) v o e = absurd (omega (arith, e))
is_hinted version (line.Lemma c) v o e = absurd (omega (arith, e))
is_hinted version (line.Learnt c) v o e = absurd (omega (arith, v, o))
is_hinted version (line.Hinted c hints) v o e = (c, hints, refl)
is_hinted version (line.Delete positions) v o e = absurd (omega (arith, e))

pub is_delete : (l : LogLine) → letter_of l ≡ 100 → (positions : List ℕ) × (l ≡ line.Delete positions)
is_delete (line.Axiom name) e = absurd (omega (arith, e))
is_delete (line.Clause k) e = absurd (omega (arith, e))
is_delete (line.Lemma c) e = absurd (omega (arith, e))
is_delete (line.Learnt c) e = absurd (omega (arith, e))
is_delete (line.Hinted c hints) e = absurd (omega (arith, e))
is_delete (line.Delete positions) e = (positions, refl)

-- lines of version 1 or 2
pub two_versions : (version : ℕ) → IsVersion version → version ≢ 1 → version ≡ 2
two_versions version (inl e) ne = absurd (ne e)
two_versions version (inr e) ne = e

-- a line read after its letter
pub of_any : (version : ℕ) (text : List ℕ) (l : LogLine) (rest : List ℕ) → IsOfVersion version l
    → SpellsParts text l rest → SpellsLine version text l rest
of_any version text l rest o s = record { of_version = o; parts = s }

moved : (text : List ℕ) (l m : LogLine) (rest : List ℕ) → l ≡ m → SpellsParts text l rest → SpellsParts text m rest
moved text l m rest e s = subst (λ k. SpellsParts text k rest) e s

pub no_axiom : (version : ℕ) (text : List ℕ) → SpellsNothing (λ n. SpellsParts (97 ∷ text) (line.Axiom n))
    → SpellsNothing (SpellsLine version (97 ∷ text))
no_axiom version text h l rest s =
    let w = is_axiom l (letter_is 97 text l rest s.parts) in
    h w.0 rest (moved (97 ∷ text) l (line.Axiom w.0) rest w.1 s.parts)

pub no_ground : (version : ℕ) (text : List ℕ) → SpellsNothing (λ k. SpellsParts (103 ∷ text) (line.Clause k))
    → SpellsNothing (SpellsLine version (103 ∷ text))
no_ground version text h l rest s =
    let w = is_ground l (letter_is 103 text l rest s.parts) in
    h w.0 rest (moved (103 ∷ text) l (line.Clause w.0) rest w.1 s.parts)

pub lemma_parts : (text : List ℕ) (c : List Lit) (rest : List ℕ) → SpellsParts (101 ∷ text) (line.Lemma c) rest
    → SpellsClause text c rest
lemma_parts text c rest s =
    record { front = tail_is 101 101 _ _ s.front ∙ append_assoc (lits_text c) (10 ∷ []) rest; spelled = s.spelled }

pub learnt_parts : (text : List ℕ) (c : List Lit) (rest : List ℕ) → SpellsParts (108 ∷ text) (line.Learnt c) rest
    → SpellsClause text c rest
learnt_parts text c rest s =
    record { front = tail_is 108 108 _ _ s.front ∙ append_assoc (lits_text c) (10 ∷ []) rest; spelled = s.spelled }

pub lemma_read : (version : ℕ) (text : List ℕ) (c : List Lit) (rest : List ℕ) → SpellsClause text c rest
    → SpellsLine version (101 ∷ text) (line.Lemma c) rest
lemma_read version text c rest s =
    of_any version (101 ∷ text) (line.Lemma c) rest tt
    (record {
      front = ap (λ t. 101 ∷ t) (s.front ∙ sym (append_assoc (lits_text c) (10 ∷ []) rest));
      spelled = s.spelled;
    })

pub learnt_read : (version : ℕ) (text : List ℕ) (c : List Lit) (rest : List ℕ) → version ≡ 1 → SpellsClause text c rest
    → SpellsLine version (108 ∷ text) (line.Learnt c) rest
learnt_read version text c rest v s =
    of_any version (108 ∷ text) (line.Learnt c) rest v
    (record {
      front = ap (λ t. 108 ∷ t) (s.front ∙ sym (append_assoc (lits_text c) (10 ∷ []) rest));
      spelled = s.spelled;
    })

pub no_lemma : (version : ℕ) (text : List ℕ) → SpellsNothing (SpellsClause text)
    → SpellsNothing (SpellsLine version (101 ∷ text))
no_lemma version text h l rest s =
    let w = is_lemma l (letter_is 101 text l rest s.parts) in
    h w.0 rest (lemma_parts text w.0 rest (moved (101 ∷ text) l (line.Lemma w.0) rest w.1 s.parts))

pub no_learnt : (version : ℕ) (text : List ℕ) → version ≡ 1 → SpellsNothing (SpellsClause text)
    → SpellsNothing (SpellsLine version (108 ∷ text))
no_learnt version text v h l rest s =
    let w = is_learnt version l v s.of_version (letter_is 108 text l rest s.parts) in
    h w.0 rest (learnt_parts text w.0 rest (moved (108 ∷ text) l (line.Learnt w.0) rest w.1 s.parts))

-- literals and hints after the letter
pub record HasHints (text : List ℕ) (c : List Lit) (ns rest : List ℕ) : Type 0 where
  pub middle : List ℕ
  pub lits : SpellsShown text c middle
  pub numbers : SpellsNumbers middle ns rest

regroup_hints : (l n rest : List ℕ)
    → (((l ++ 32 ∷ 59 ∷ []) ++ n) ++ 10 ∷ []) ++ rest ≡ l ++ (32 ∷ 59 ∷ (n ++ 10 ∷ rest))
regroup_hints l n rest = simp append_assoc

pub hinted_parts : (text : List ℕ) (c : List Lit) (hints : List ℕ) (rest : List ℕ)
    → SpellsParts (108 ∷ text) (line.Hinted c hints) rest → HasHints text c hints rest
hinted_parts text c hints rest s =
    record {
      middle = numbers_text hints ++ 10 ∷ rest;
      lits = record {
        front = tail_is 108 108 _ _ s.front ∙ regroup_hints (lits_text c) (numbers_text hints) rest;
        spelled = s.spelled.0;
      };
      numbers = record { front = refl; within = s.spelled.1 };
    }

pub hinted_read : (version : ℕ) (text : List ℕ) (c : List Lit) (hints : List ℕ) (middle rest : List ℕ) → version ≡ 2
    → SpellsShown text c middle → SpellsNumbers middle hints rest
    → SpellsLine version (108 ∷ text) (line.Hinted c hints) rest
hinted_read version text c hints middle rest v s n =
    of_any version (108 ∷ text) (line.Hinted c hints) rest v
    (record {
      front =
          ap (λ t. 108 ∷ t) (s.front ∙ ap (λ t. lits_text c ++ (32 ∷ 59 ∷ t)) n.front
          ∙ sym (regroup_hints (lits_text c) (numbers_text hints) rest));
      spelled = (s.spelled, n.within);
    })

pub no_shown : (version : ℕ) (text : List ℕ) → version ≡ 2 → SpellsNothing (SpellsShown text)
    → SpellsNothing (SpellsLine version (108 ∷ text))
no_shown version text v h l rest s =
    let w = is_hinted version l v s.of_version (letter_is 108 text l rest s.parts) in
    let parts = hinted_parts text w.0 w.1 rest (moved (108 ∷ text) l (line.Hinted w.0 w.1) rest w.2 s.parts) in
    h w.0 parts.middle parts.lits

pub no_hints : (version : ℕ) (text : List ℕ) (c : List Lit) (middle : List ℕ) → version ≡ 2 → SpellsShown text c middle
    → SpellsNothing (SpellsNumbers middle) → SpellsNothing (SpellsLine version (108 ∷ text))
no_hints version text c middle v a h l rest s =
    let w = is_hinted version l v s.of_version (letter_is 108 text l rest s.parts) in
    let parts = hinted_parts text w.0 w.1 rest (moved (108 ∷ text) l (line.Hinted w.0 w.1) rest w.2 s.parts) in
    let one = one_lits _ sign_ends text c w.0 middle parts.middle a parts.lits in
    h w.1 rest (subst (λ t. SpellsNumbers t w.1 rest) (sym one.rest) parts.numbers)

pub delete_parts : (text : List ℕ) (positions : List ℕ) (rest : List ℕ)
    → SpellsParts (100 ∷ text) (line.Delete positions) rest → SpellsNumbers text positions rest
delete_parts text positions rest s =
    record {
      front = tail_is 100 100 _ _ s.front ∙ append_assoc (numbers_text positions) (10 ∷ []) rest;
      within = s.spelled;
    }

pub delete_read : (version : ℕ) (text : List ℕ) (positions : List ℕ) (rest : List ℕ) → version ≡ 2
    → SpellsNumbers text positions rest
    → SpellsLine version (100 ∷ text) (line.Delete positions) rest
delete_read version text positions rest v n =
    of_any version (100 ∷ text) (line.Delete positions) rest v
    (record {
      front = ap (λ t. 100 ∷ t) (n.front ∙ sym (append_assoc (numbers_text positions) (10 ∷ []) rest));
      spelled = n.within;
    })

pub no_delete : (version : ℕ) (text : List ℕ) → version ≢ 2 → SpellsNothing (SpellsLine version (100 ∷ text))
no_delete version text v l rest s =
    let w = is_delete l (letter_is 100 text l rest s.parts) in
    v (subst (IsOfVersion version) w.1 s.of_version)

pub no_positions : (version : ℕ) (text : List ℕ) → SpellsNothing (SpellsNumbers text)
    → SpellsNothing (SpellsLine version (100 ∷ text))
no_positions version text h l rest s =
    let w = is_delete l (letter_is 100 text l rest s.parts) in
    h w.0 rest (delete_parts text w.0 rest (moved (100 ∷ text) l (line.Delete w.0) rest w.1 s.parts))

-- the number of a ground clause after its letter
pub record HasGround (text : List ℕ) (k : ℕ) (rest : List ℕ) : Type 0 where
  pub middle : List ℕ
  pub front : text ≡ 32 ∷ middle
  pub number : SpellsNumber 4294967295 middle k (10 ∷ rest)

pub ground_parts : (text : List ℕ) (k : ℕ) (rest : List ℕ) → SpellsParts (103 ∷ text) (line.Clause k) rest
    → HasGround text k rest
ground_parts text k rest s =
    record {
      middle = decimal k ++ 10 ∷ rest;
      front = tail_is 103 103 _ _ s.front ∙ ap (λ t. 32 ∷ t) (append_assoc (decimal k) (10 ∷ []) rest);
      number = record { front = refl; within = s.spelled; ends = refl };
    }

pub ground_read : (text middle rest : List ℕ) (k : ℕ) → text ≡ 32 ∷ middle
    → SpellsNumber 4294967295 middle k (10 ∷ rest) → SpellsParts (103 ∷ text) (line.Clause k) rest
ground_read text middle rest k e s =
    record {
      front = ap (λ t. 103 ∷ t) (e ∙ ap (λ t. 32 ∷ t) (s.front ∙ sym (append_assoc (decimal k) (10 ∷ []) rest)));
      spelled = s.within;
    }

pub one_ground : (text middle after : List ℕ) (k : ℕ) → text ≡ 32 ∷ middle → SpellsNumber 4294967295 middle k after
    → IsNotNext 10 after → SpellsNothing (λ k. SpellsParts (103 ∷ text) (line.Clause k))
one_ground text middle after k e a n m rest s =
    let w = ground_parts text m rest s in
    let f = w.front in
    let middles : middle ≡ w.middle = tail_is 32 32 middle w.middle (sym e ∙ f) in
    let one =
    one_number k m after (10 ∷ rest) (omega (arith, a.within)) (omega (arith, s.spelled)) a.ends refl
    (sym a.front ∙ middles ∙ w.number.front) in
    subst (IsNotNext 10) one.rest n refl

-- headers
pub header_parts : (text : List ℕ) (k : ℕ) (rest : List ℕ) → text ≡ header_text k ++ rest
    → text ≡ codes "condition " ++ (decimal k ++ 10 ∷ rest)
header_parts text k rest e =
    e ∙ append_assoc (codes "condition " ++ decimal k) (10 ∷ []) rest
    ∙ append_assoc (codes "condition ") (decimal k) (10 ∷ rest)

pub header_read : (text middle rest : List ℕ) (k : ℕ) → text ≡ codes "condition " ++ middle
    → middle ≡ decimal k ++ 10 ∷ rest → text ≡ header_text k ++ rest
header_read text middle rest k e f =
    e ∙ ap (λ t. codes "condition " ++ t) f ∙ sym (header_parts (header_text k ++ rest) k rest refl)

header_middle : (text middle rest : List ℕ) (j : ℕ) → text ≡ codes "condition " ++ middle → text ≡ header_text j ++ rest
    → middle ≡ decimal j ++ 10 ∷ rest
header_middle text middle rest j e f =
    append_cancel_left (codes "condition ") middle (decimal j ++ 10 ∷ rest) (sym e ∙ header_parts text j rest f)

pub other_header : (text middle after : List ℕ) (k j : ℕ) → text ≡ codes "condition " ++ middle
    → SpellsNumber 4294967295 middle k after → j < 4294967296 → k ≢ j → SpellsNothing (SpellsHeader j text)
other_header text middle after k j e a small other u rest f =
    let one =
    one_number k j after (10 ∷ rest) (omega (arith, a.within)) (omega arith) a.ends refl
    (sym a.front ∙ header_middle text middle rest j e f) in
    other one.value

pub header_goes_on : (text middle after : List ℕ) (k j : ℕ) → text ≡ codes "condition " ++ middle
    → SpellsNumber 4294967295 middle k after → j < 4294967296 → IsNotNext 10 after → SpellsNothing (SpellsHeader j text)
header_goes_on text middle after k j e a small n u rest f =
    let one =
    one_number k j after (10 ∷ rest) (omega (arith, a.within)) (omega arith) a.ends refl
    (sym a.front ∙ header_middle text middle rest j e f) in
    subst (IsNotNext 10) one.rest n refl

pub no_number_there : (text middle : List ℕ) (j : ℕ) → text ≡ codes "condition " ++ middle → j < 4294967296
    → SpellsNothing (SpellsNumber 4294967295 middle) → SpellsNothing (SpellsHeader j text)
no_number_there text middle j e small h u rest f =
    h j (10 ∷ rest) (record { front = header_middle text middle rest j e f; within = omega arith; ends = refl })

-- the first line of a log
pub small_version : (version : ℕ) → IsVersion version → version ≤ 2
small_version version (inl e) = omega (arith, e)
small_version version (inr e) = omega (arith, e)

pub version_parts : (version : ℕ) (rest : List ℕ)
    → first_line version ++ rest ≡ codes "grass log " ++ (decimal version ++ 10 ∷ rest)
version_parts version rest =
    append_assoc (codes "grass log " ++ decimal version) (10 ∷ []) rest
    ∙ append_assoc (codes "grass log ") (decimal version) (10 ∷ rest)

pub one_version : (m n : ℕ) (r q : List ℕ) → IsVersion m → IsVersion n → first_line m ++ r ≡ first_line n ++ q
    → AreOne m n r q
one_version m n r q a b e =
    let t : decimal m ++ 10 ∷ r ≡ decimal n ++ 10 ∷ q =
    append_cancel_left (codes "grass log ") _ _ (sym (version_parts m r) ∙ e ∙ version_parts n q) in
    let one =
    one_number m n (10 ∷ r) (10 ∷ q) (omega (arith, small_version m a)) (omega (arith, small_version n b)) refl refl
    t in
    record { value = one.value; rest = tail_is 10 10 r q one.rest }

version_middle : (text middle rest : List ℕ) (version : ℕ) → text ≡ codes "grass log " ++ middle
    → SpellsVersion text version rest → middle ≡ decimal version ++ 10 ∷ rest
version_middle text middle rest version e s =
    append_cancel_left (codes "grass log ") middle (decimal version ++ 10 ∷ rest)
    (sym e ∙ s.front ∙ version_parts version rest)

pub is_version : (n : ℕ) → n ≤ 2 → n ≢ 0 → IsVersion n
is_version zero h some = absurd (some refl)
is_version (suc zero) h some = inl refl
is_version (suc (suc zero)) h some = inr refl
is_version (suc (suc (suc n))) h some = absurd (omega arith)

pub version_read : (text middle rest : List ℕ) (n : ℕ) → text ≡ codes "grass log " ++ middle
    → SpellsNumber 2 middle n (10 ∷ rest) → n ≢ 0 → SpellsVersion text n rest
version_read text middle rest n e s some =
    record {
      front = e ∙ ap (λ t. codes "grass log " ++ t) s.front ∙ sym (version_parts n rest);
      is = is_version n s.within some;
    }

pub no_version_text : (text : List ℕ) → SpellsNothing (SpellsText (codes "grass log ") text)
    → SpellsNothing (SpellsVersion text)
no_version_text text h version rest s = h tt (decimal version ++ 10 ∷ rest) (s.front ∙ version_parts version rest)

pub no_version_number : (text middle : List ℕ) → text ≡ codes "grass log " ++ middle
    → SpellsNothing (SpellsNumber 2 middle) → SpellsNothing (SpellsVersion text)
no_version_number text middle e h version rest s =
    h version (10 ∷ rest) (record
    { front = version_middle text middle rest version e s; within = small_version version s.is; ends = refl })

same_version : (text middle after : List ℕ) (n version : ℕ) (rest : List ℕ) → text ≡ codes "grass log " ++ middle
    → SpellsNumber 2 middle n after → SpellsVersion text version rest
    → AreOne n version after (10 ∷ rest)
same_version text middle after n version rest e a s =
    one_number n version after (10 ∷ rest) (omega (arith, a.within)) (omega (arith, small_version version s.is)) a.ends
    refl (sym a.front ∙ version_middle text middle rest version e s)

not_zero : (version : ℕ) → IsVersion version → version ≢ 0
not_zero version (inl e) z = absurd (omega (arith, e, z))
not_zero version (inr e) z = absurd (omega (arith, e, z))

pub no_version_zero : (text middle after : List ℕ) (n : ℕ) → text ≡ codes "grass log " ++ middle
    → SpellsNumber 2 middle n after → n ≡ 0 → SpellsNothing (SpellsVersion text)
no_version_zero text middle after n e a z version rest s =
    let one = same_version text middle after n version rest e a s in
    not_zero version s.is (sym one.value ∙ z)

pub version_goes_on : (text middle after : List ℕ) (n : ℕ) → text ≡ codes "grass log " ++ middle
    → SpellsNumber 2 middle n after → IsNotNext 10 after → SpellsNothing (SpellsVersion text)
version_goes_on text middle after n e a not_there version rest s =
    let one = same_version text middle after n version rest e a s in
    subst (IsNotNext 10) one.rest not_there refl
