-- Atoms, literals and clauses at the front of a text.
use Rattle.std.proofs.Common.{◌≡◌, ◌≢◌, ℕ, ◌^◌, ◌<◌, ◌≤◌, List, [], ◌∷◌, ◌++◌, length, get_or, Bool, true, false, not}
use Rattle.std.proofs.Common.{cond, nat_eq, codes, All, refl, sym, ◌∙◌, ap, subst, arith, append_assoc, MatchBool}
use Rattle.std.specs.Fmt.{decimal}
use Rattle.std.proofs.lemmas.List.{append-nil, append_cancel_left}
use Rattle.std.proofs.lemmas.List.Elements.{All-head, All-tail, All-cons}
use Rattle.gh_base.specs.declared.atom.Atom.{Atom}
use Rattle.gh_base.specs.declared.atom.Atom.TheVariants.{Eq, Btwn, Hop, Alloc, Def}
use Rattle.gh_base.specs.declared.atom.Lit.{Lit}
use Rattle.gh_base.specs.Texts.{line_end}
use Rattle.gh_base.specs.Atoms.{term}
use Rattle.gh_log.specs.Texts.{atom_text, sign_text, lits_text}
use Rattle.gh_log.specs.Spelled.{IsSpelledAtom}
use Rattle.gh_log.specs.Reading.{SpellsNothing, IsNotNext, EndsNumber, SpellsBytes, SpellsAtom, SpellsLit, SpellsLits}
use Rattle.gh_log.specs.Reading.{SpellsClause, SpellsShown}
use Rattle.gh_log.proofs.NumberLemmas.{AreOne, AreSmall, marked, one_marked, one_bytes, bytes_small}

-- the letter of an atom, and its numbers
abbrev pub kind_of : Atom → ℕ
kind_of (Eq a b) = 69
kind_of (Btwn v x y z) = 66
kind_of (Hop v x y) = 72
kind_of (Alloc v x) = 65
kind_of (Def number) = 68

abbrev pub numbers_of : Atom → List ℕ
numbers_of (Eq a b) = a.0 ∷ b.0 ∷ []
numbers_of (Btwn v x y z) = v ∷ x.0 ∷ y.0 ∷ z.0 ∷ []
numbers_of (Hop v x y) = v ∷ x.0 ∷ y.0 ∷ []
numbers_of (Alloc v x) = v ∷ x.0 ∷ []
numbers_of (Def number) = number ∷ []

-- the atom of a letter and numbers
abbrev pub atom_with : ℕ → List ℕ → Atom
atom_with k ns =
    let n : ℕ → ℕ = λ i. get_or ns i 0 in
    cond (nat_eq k 69) (Eq (term (n 0)) (term (n 1)))
    (cond (nat_eq k 66) (Btwn (n 0) (term (n 1)) (term (n 2)) (term (n 3)))
    (cond (nat_eq k 72) (Hop (n 0) (term (n 1)) (term (n 2)))
    (cond (nat_eq k 65) (Alloc (n 0) (term (n 1))) (Def (n 0)))))

-- how many numbers come after a letter
abbrev pub count_at : ℕ → ℕ
count_at k = cond (nat_eq k 69) 2 (cond (nat_eq k 66) 4 (cond (nat_eq k 72) 3 (cond (nat_eq k 65) 2 1)))

pub made : (x : Atom) → atom_with (kind_of x) (numbers_of x) ≡ x
made (Eq a b) = refl
made (Btwn v x y z) = refl
made (Hop v x y) = refl
made (Alloc v x) = refl
made (Def number) = refl

pub counted : (x : Atom) → length (numbers_of x) ≡ count_at (kind_of x)
counted (Eq a b) = refl
counted (Btwn v x y z) = refl
counted (Hop v x y) = refl
counted (Alloc v x) = refl
counted (Def number) = refl

two_numbers : (a b : List ℕ) → a ++ 46 ∷ b ≡ a ++ 46 ∷ (b ++ [])
two_numbers a b = simp append-nil

three_numbers : (a b c : List ℕ) → (a ++ 46 ∷ b) ++ 46 ∷ c ≡ a ++ 46 ∷ (b ++ 46 ∷ (c ++ []))
three_numbers a b c = simp (append_assoc, append-nil)

four_numbers : (a b c d : List ℕ) → ((a ++ 46 ∷ b) ++ 46 ∷ c) ++ 46 ∷ d ≡ a ++ 46 ∷ (b ++ 46 ∷ (c ++ 46 ∷ (d ++ [])))
four_numbers a b c d = simp (append_assoc, append-nil)

pub atom_parts : (x : Atom) → atom_text x ≡ kind_of x ∷ marked 46 (numbers_of x)
atom_parts (Eq a b) = ap (λ t. 69 ∷ 46 ∷ t) (two_numbers (decimal a.0) (decimal b.0))
atom_parts (Btwn v x y z) = ap (λ t. 66 ∷ 46 ∷ t) (four_numbers (decimal v) (decimal x.0) (decimal y.0) (decimal z.0))
atom_parts (Hop v x y) = ap (λ t. 72 ∷ 46 ∷ t) (three_numbers (decimal v) (decimal x.0) (decimal y.0))
atom_parts (Alloc v x) = ap (λ t. 65 ∷ 46 ∷ t) (two_numbers (decimal v) (decimal x.0))
atom_parts (Def number) = ap (λ t. 68 ∷ 46 ∷ t) (sym (append-nil (decimal number)))

abbrev IsSmall : ℕ → Type 0
IsSmall n = n < 2 ^ 64

abbrev pub IsByte : ℕ → Type 0
IsByte n = n ≤ 255

none : (P : ℕ → Type 0) → All P []
none P k d l = absurd (omega arith)

small : (x : ℕ) (xs : List ℕ) → IsSmall x → AreSmall xs → AreSmall (x ∷ xs)
small x xs h a = All-cons IsSmall x xs h a

pub a_byte : (x : ℕ) (xs : List ℕ) → IsByte x → All IsByte xs → All IsByte (x ∷ xs)
a_byte x xs h a = All-cons IsByte x xs h a

pub numbers_bytes : (x : Atom) → kind_of x ≢ 68 → IsSpelledAtom x → All IsByte (numbers_of x)
numbers_bytes (Eq a b) no_def h = a_byte a.0 (b.0 ∷ []) (omega (arith, h.0, h.1)) (a_byte b.0 [] h.1 (none IsByte))
numbers_bytes (Btwn v x y z) no_def h =
    a_byte v (x.0 ∷ y.0 ∷ z.0 ∷ []) h.0
    (a_byte x.0 (y.0 ∷ z.0 ∷ []) h.1 (a_byte y.0 (z.0 ∷ []) h.2 (a_byte z.0 [] h.3 (none IsByte))))
numbers_bytes (Hop v x y) no_def h =
    a_byte v (x.0 ∷ y.0 ∷ []) h.0 (a_byte x.0 (y.0 ∷ []) h.1 (a_byte y.0 [] h.2 (none IsByte)))
numbers_bytes (Alloc v x) no_def h = a_byte v (x.0 ∷ []) h.0 (a_byte x.0 [] h.1 (none IsByte))
numbers_bytes (Def number) no_def h = absurd (no_def refl)

pub numbers_small : (x : Atom) → IsSpelledAtom x → AreSmall (numbers_of x)
numbers_small (Eq a b) h = bytes_small (a.0 ∷ b.0 ∷ []) (numbers_bytes (Eq a b) (λ e. absurd (omega (arith, e))) h)
numbers_small (Btwn v x y z) h =
    bytes_small (v ∷ x.0 ∷ y.0 ∷ z.0 ∷ []) (numbers_bytes (Btwn v x y z) (λ e. absurd (omega (arith, e))) h)
numbers_small (Hop v x y) h =
    bytes_small (v ∷ x.0 ∷ y.0 ∷ []) (numbers_bytes (Hop v x y) (λ e. absurd (omega (arith, e))) h)
numbers_small (Alloc v x) h = bytes_small (v ∷ x.0 ∷ []) (numbers_bytes (Alloc v x) (λ e. absurd (omega (arith, e))) h)
numbers_small (Def number) h = small number [] (omega (arith, h)) (none IsSmall)

-- what the text of an atom begins with
pub record HasParts (text : List ℕ) (x : Atom) (rest : List ℕ) : Type 0 where
  pub middle : List ℕ
  pub front : text ≡ kind_of x ∷ middle
  pub numbers : middle ≡ marked 46 (numbers_of x) ++ rest

pub parts_of : (text : List ℕ) (x : Atom) (rest : List ℕ) → text ≡ atom_text x ++ rest → HasParts text x rest
parts_of text x rest e = record {
  middle = marked 46 (numbers_of x) ++ rest;
  front = e ∙ ap (λ t. t ++ rest) (atom_parts x);
  numbers = refl;
}

pub one_atom : (text : List ℕ) (x y : Atom) (r q : List ℕ) → SpellsAtom text x r → SpellsAtom text y q → AreOne x y r q
one_atom text x y r q a b =
    let p = parts_of text x r a.front in let u = parts_of text y q b.front in
    let pf = p.front in let uf = u.front in
    let kinds : kind_of x ≡ kind_of y = cc in
    let middles : p.middle ≡ u.middle = cc in
    let one =
    one_marked 46 (numbers_of x) (numbers_of y) r q refl (counted x ∙ ap count_at kinds ∙ sym (counted y))
    (numbers_small x a.spelled) (numbers_small y b.spelled) a.ends b.ends
    (sym p.numbers ∙ middles ∙ u.numbers) in
    record {
      value = sym (made x) ∙ ap (λ k. atom_with k (numbers_of x)) kinds ∙ ap (atom_with (kind_of y)) one.value
          ∙ made y;
      rest = one.rest;
    }

-- the numbers after a letter
pub bytes_of : (k : ℕ) (text : List ℕ) (x : Atom) (rest : List ℕ) → k ≢ 68 → SpellsAtom (k ∷ text) x rest
    → (kind_of x ≡ k) × SpellsBytes 46 (count_at k) text (numbers_of x) rest
bytes_of k text x rest no_def s =
    let p = parts_of (k ∷ text) x rest s.front in
    let pf = p.front in
    let kind : kind_of x ≡ k = cc in
    let tail : text ≡ p.middle = cc in (
      kind,
      record {
        front = tail ∙ p.numbers;
        counted = counted x ∙ ap count_at kind;
        within = numbers_bytes x (λ e. no_def (sym kind ∙ e)) s.spelled;
        ends = s.ends;
      },
    )

pub no_numbers : (k : ℕ) (text : List ℕ) → k ≢ 68 → SpellsNothing (SpellsBytes 46 (count_at k) text)
    → SpellsNothing (SpellsAtom (k ∷ text))
no_numbers k text no_def h x rest s = let t = bytes_of k text x rest no_def s in h (numbers_of x) rest t.1

-- an equality whose terms don't stand in order
pub out_of_order : (a b : ℕ) (text rest : List ℕ) → SpellsBytes 46 2 text (a ∷ b ∷ []) rest → b < a
    → SpellsNothing (SpellsAtom (69 ∷ text))
out_of_order a b text rest here h x q s =
    let t = bytes_of 69 text x q (λ e. absurd (omega (arith, e))) s in
    let one = one_bytes 46 2 text (a ∷ b ∷ []) (numbers_of x) rest q refl here t.1 in
    let is : Eq (term a) (term b) ≡ x =
    ap (atom_with 69) one.value ∙ ap (λ k. atom_with k (numbers_of x)) (sym t.0) ∙ made x in
    let order = subst IsSpelledAtom (sym is) s.spelled in
    omega (arith, order.0, h)

-- a letter of no atom
pub no_kind : (b : ℕ) (text : List ℕ) → b ≢ 69 → b ≢ 66 → b ≢ 72 → b ≢ 65 → b ≢ 68
    → SpellsNothing (SpellsAtom (b ∷ text))
no_kind b text p q r s t (Eq x y) rest h = let f = (parts_of (b ∷ text) (Eq x y) rest h.front).front in p (cc)
no_kind b text p q r s t (Btwn v x y z) rest h = let f = (parts_of (b ∷ text) (Btwn v x y z) rest h.front).front in
    q (cc)
no_kind b text p q r s t (Hop v x y) rest h = let f = (parts_of (b ∷ text) (Hop v x y) rest h.front).front in r (cc)
no_kind b text p q r s t (Alloc v x) rest h = let f = (parts_of (b ∷ text) (Alloc v x) rest h.front).front in s (cc)
no_kind b text p q r s t (Def n) rest h = let f = (parts_of (b ∷ text) (Def n) rest h.front).front in t (cc)

-- no text is at its end where an atom is to come
pub no_atom_at_end : SpellsNothing (SpellsAtom [])
no_atom_at_end x rest s = let f = (parts_of [] x rest s.front).front in absurd (cc)

not_sign : (x : Atom) → kind_of x ≢ 45
not_sign (Eq a b) e = absurd (omega (arith, e))
not_sign (Btwn v x y z) e = absurd (omega (arith, e))
not_sign (Hop v x y) e = absurd (omega (arith, e))
not_sign (Alloc v x) e = absurd (omega (arith, e))
not_sign (Def number) e = absurd (omega (arith, e))

-- whether a sign was taken
abbrev pub TakesSign : Bool → List ℕ → List ℕ → Type 0
TakesSign b text middle = MatchBool b (text ≡ 45 ∷ middle) ((middle ≡ text) × IsNotNext 45 text)

pub lit_read : (b : Bool) (text middle rest : List ℕ) (x : Atom) → TakesSign b text middle → SpellsAtom middle x rest
    → SpellsLit text (record { atom = x; positive = not b }) rest
lit_read true text middle rest x t s =
    record { front = t ∙ ap (λ u. 45 ∷ u) s.front; spelled = s.spelled; ends = s.ends }
lit_read false text middle rest x t s = record { front = sym t.0 ∙ s.front; spelled = s.spelled; ends = s.ends }

same_lit : (b p : Bool) (text middle rest : List ℕ) (x : Atom) → TakesSign b text middle
    → text ≡ cond p [] (codes "-") ++ atom_text x ++ rest → (p ≡ not b) × (middle ≡ atom_text x ++ rest)
same_lit true true text middle rest x t e = let f = (parts_of text x rest e).front in absurd (not_sign x (cc))
same_lit true false text middle rest x t e = (refl, cc)
same_lit false true text middle rest x t e = (refl, t.0 ∙ e)
same_lit false false text middle rest x t e = absurd (subst (IsNotNext 45) e t.1 refl)

pub no_lit : (b : Bool) (text middle : List ℕ) → TakesSign b text middle → SpellsNothing (SpellsAtom middle)
    → SpellsNothing (SpellsLit text)
no_lit b text middle t h l rest s =
    let m = same_lit b l.positive text middle rest l.atom t s.front in
    h l.atom rest (record { front = m.1; spelled = s.spelled; ends = s.ends })

takes_at : (p : Bool) (x : Atom) (text rest : List ℕ) → text ≡ cond p [] (codes "-") ++ atom_text x ++ rest
    → (b : Bool) × (middle : List ℕ) × TakesSign b text middle × (middle ≡ atom_text x ++ rest) × (p ≡ not b)
takes_at true x text rest e =
    let h = parts_of text x rest e in
    (false, text, (refl, subst (IsNotNext 45) (sym h.front) (not_sign x)), e, refl)
takes_at false x text rest e = (true, atom_text x ++ rest, e, refl, refl)

same_parts : (l m : Lit) → l.atom ≡ m.atom → l.positive ≡ m.positive → l ≡ m
same_parts l m e f = λ i. record { atom = e i; positive = f i }

pub one_lit : (text : List ℕ) (l m : Lit) (r q : List ℕ) → SpellsLit text l r → SpellsLit text m q → AreOne l m r q
one_lit text l m r q a b =
    let t = takes_at l.positive l.atom text r a.front in
    let s = same_lit t.0 m.positive text t.1 q m.atom t.2 b.front in
    let one =
    one_atom t.1 l.atom m.atom r q (record { front = t.3; spelled = a.spelled; ends = a.ends })
    (record { front = s.1; spelled = b.spelled; ends = b.ends }) in
    record { value = same_parts l m one.value (t.4 ∙ sym s.0); rest = one.rest }

-- a line feed is no space
pub ends_or_more : (x y : List ℕ) → 10 ∷ x ≡ 32 ∷ y → ⊥
ends_or_more x y e = let d : ◌≡◌ {A = ℕ} 10 32 = cc in absurd (omega (arith, d))

-- what ends literals begins with no digit, and with no literal after a space
pub record IsEnd (end : List ℕ) : Type 0 where
  pub ends : (rest : List ℕ) → EndsNumber (end ++ rest)
  pub apart : (x y z : List ℕ) (l : Lit) → end ++ x ≡ 32 ∷ y → SpellsLit y l z → ⊥

pub feed_ends : IsEnd line_end
feed_ends = record { ends = λ rest. refl; apart = λ x y z l e s. ends_or_more x y e }

-- the sign before hints begins no literal
no_sign : (x : List ℕ) → SpellsNothing (SpellsLit (59 ∷ x))
no_sign x =
    no_lit false (59 ∷ x) (59 ∷ x) (refl, λ e. absurd (omega (arith, e)))
    (no_kind 59 x (λ e. absurd (omega (arith, e))) (λ e. absurd (omega (arith, e))) (λ e. absurd (omega (arith, e)))
    (λ e. absurd (omega (arith, e))) (λ e. absurd (omega (arith, e))))

pub sign_ends : IsEnd (codes " ;")
sign_ends =
    record {
      ends = λ rest. refl;
      apart = λ x y z l e s. let tail : y ≡ 59 ∷ x = cc in no_sign x l z (subst (λ t. SpellsLit t l z) tail s);
    }

-- a clause begins with a literal, or is at its end
pub ends_lits : (end : List ℕ) → IsEnd end → (ls : List Lit) (rest : List ℕ)
    → EndsNumber (lits_text ls ++ (end ++ rest))
ends_lits end h [] rest = h.ends rest
ends_lits end h (l ∷ ls) rest = refl

pub record HasFirst (end text : List ℕ) (l : Lit) (ls : List Lit) (rest : List ℕ) : Type 0 where
  pub middle : List ℕ
  pub after : List ℕ
  pub front : text ≡ 32 ∷ middle
  pub first : SpellsLit middle l after
  pub others : SpellsLits end after ls rest

pub first_lit : (end : List ℕ) → IsEnd end → (text : List ℕ) (l : Lit) (ls : List Lit) (rest : List ℕ)
    → SpellsLits end text (l ∷ ls) rest → HasFirst end text l ls rest
first_lit end h text l ls rest s =
    record {
      middle = ((sign_text l ++ atom_text l.atom) ++ lits_text ls) ++ (end ++ rest);
      after = lits_text ls ++ (end ++ rest);
      front = s.front;
      first = record {
        front = append_assoc (sign_text l ++ atom_text l.atom) (lits_text ls) (end ++ rest);
        spelled = All-head (λ k. IsSpelledAtom k.atom) l ls s.spelled;
        ends = ends_lits end h ls rest;
      };
      others = record { front = refl; spelled = All-tail (λ k. IsSpelledAtom k.atom) l ls s.spelled };
    }

pub lit_first : (end text middle after rest : List ℕ) (l : Lit) (ls : List Lit) → text ≡ 32 ∷ middle
    → SpellsLit middle l after → SpellsLits end after ls rest → SpellsLits end text (l ∷ ls) rest
lit_first end text middle after rest l ls e a b =
    record {
      front =
          e ∙ ap (λ t. 32 ∷ t) (a.front ∙ ap (λ t. (sign_text l ++ atom_text l.atom) ++ t) b.front
          ∙ sym (append_assoc (sign_text l ++ atom_text l.atom) (lits_text ls) (end ++ rest)));
      spelled = All-cons (λ k. IsSpelledAtom k.atom) l ls a.spelled b.spelled;
    }

pub one_lits : (end : List ℕ) → IsEnd end → (text : List ℕ) (c d : List Lit) (r q : List ℕ) → SpellsLits end text c r
    → SpellsLits end text d q → AreOne c d r q
one_lits end h text [] [] r q a b = record { value = refl; rest = append_cancel_left end r q (sym a.front ∙ b.front) }
one_lits end h text [] (m ∷ d) r q a b = let g = first_lit end h text m d q b in
    absurd (h.apart r g.middle g.after m (sym a.front ∙ g.front) g.first)
one_lits end h text (l ∷ c) [] r q a b = let g = first_lit end h text l c r a in
    absurd (h.apart q g.middle g.after l (sym b.front ∙ g.front) g.first)
one_lits end h text (l ∷ c) (m ∷ d) r q a b =
    let f = first_lit end h text l c r a in let g = first_lit end h text m d q b in
    let fe = f.front in let ge = g.front in
    let middles : g.middle ≡ f.middle = cc in
    let one = one_lit f.middle l m f.after g.after f.first (subst (λ t. SpellsLit t m g.after) middles g.first) in
    let more = one_lits end h f.after c d r q f.others (subst (λ t. SpellsLits end t d q) (sym one.rest) g.others) in
    let here : l ≡ m = one.value in
    let there : c ≡ d = more.value in
    record { value = cc; rest = more.rest }

pub no_clause_here : (text : List ℕ) → IsNotNext 10 text → IsNotNext 32 text → SpellsNothing (SpellsClause text)
no_clause_here text h k [] rest s = subst (IsNotNext 10) s.front h refl
no_clause_here text h k (l ∷ ls) rest s =
    subst (IsNotNext 32) (first_lit line_end feed_ends text l ls rest s).front k refl

pub no_lit_here : (text middle : List ℕ) → text ≡ 32 ∷ middle → SpellsNothing (SpellsLit middle)
    → SpellsNothing (SpellsClause text)
no_lit_here text middle e h [] rest s = ends_or_more rest middle (sym s.front ∙ e)
no_lit_here text middle e h (l ∷ ls) rest s =
    let f = first_lit line_end feed_ends text l ls rest s in
    let fe = f.front in
    let middles : f.middle ≡ middle = cc in
    h l f.after (subst (λ t. SpellsLit t l f.after) middles f.first)

pub no_shown_here : (text : List ℕ) → IsNotNext 32 text → SpellsNothing (SpellsShown text)
no_shown_here text k [] rest s = subst (IsNotNext 32) s.front k refl
no_shown_here text k (l ∷ ls) rest s =
    subst (IsNotNext 32) (first_lit (codes " ;") sign_ends text l ls rest s).front k refl

pub no_shown_lit : (text middle : List ℕ) → text ≡ 32 ∷ middle → IsNotNext 59 middle → SpellsNothing (SpellsLit middle)
    → SpellsNothing (SpellsShown text)
no_shown_lit text middle e n h [] rest s =
    let f = s.front in
    let tail : middle ≡ 59 ∷ rest = cc in
    subst (IsNotNext 59) tail n refl
no_shown_lit text middle e n h (l ∷ ls) rest s =
    let f = first_lit (codes " ;") sign_ends text l ls rest s in
    let fe = f.front in
    let middles : f.middle ≡ middle = cc in
    h l f.after (subst (λ t. SpellsLit t l f.after) middles f.first)

-- what is left of a part, put after what was read, is the whole
pub record Goes {X Y : Type 0} (P : X → List ℕ → Type 0) (Q : Y → List ℕ → Type 0) (put : X → Y) : Type 0 where
  pub forth : (x : X) (rest : List ℕ) → P x rest → Q (put x) rest
  pub back : SpellsNothing P → SpellsNothing Q

pub goes_none : (end text : List ℕ) (c : List Lit) → c ≡ []
    → Goes (SpellsLits end text) (SpellsLits end text) (λ d. c ++ d)
goes_none end text c e = record {
  forth = λ d rest s. subst (λ b. SpellsLits end text (b ++ d) rest) (sym e) s;
  back = λ h. h;
}

pub goes_lit : (end : List ℕ) → IsEnd end → (whole text middle after : List ℕ) (c d : List Lit) (l : Lit)
    → Goes (SpellsLits end text) (SpellsLits end whole) (λ e. c ++ e)
    → text ≡ 32 ∷ middle → SpellsLit middle l after → d ≡ c ++ l ∷ []
    → Goes (SpellsLits end after) (SpellsLits end whole) (λ e. d ++ e)
goes_lit end i whole text middle after c d l g e s f =
    record {
      forth = λ ls rest h.
          subst (λ b. SpellsLits end whole b rest) (sym (ap (λ b. b ++ ls) f ∙ append_assoc c (l ∷ []) ls))
          (g.forth (l ∷ ls) rest (lit_first end text middle after rest l ls e s h));
      back = λ h. g.back (no_more end i text middle after l e s h);
    }
  where
    no_more : (end : List ℕ) → IsEnd end → (text middle after : List ℕ) (l : Lit) → text ≡ 32 ∷ middle
        → SpellsLit middle l after → SpellsNothing (SpellsLits end after) → SpellsNothing (SpellsLits end text)
    no_more end i text middle after l e s h [] rest k = i.apart rest middle after l (sym k.front ∙ e) s
    no_more end i text middle after l e s h (m ∷ ls) rest k =
        let f = first_lit end i text m ls rest k in
        let fe = f.front in
        let middles : f.middle ≡ middle = cc in
        let one = one_lit middle l m after f.after s (subst (λ t. SpellsLit t m f.after) middles f.first) in
        h ls rest (subst (λ t. SpellsLits end t ls rest) (sym one.rest) f.others)

pub goes_end : (end whole text after : List ℕ) (c : List Lit)
    → Goes (SpellsLits end text) (SpellsLits end whole) (λ e. c ++ e) → text ≡ end ++ after
    → SpellsLits end whole c after
goes_end end whole text after c g e =
    subst (λ b. SpellsLits end whole b after) (append-nil c)
    (g.forth [] after (record { front = e; spelled = λ k d l. absurd (omega arith) }))
