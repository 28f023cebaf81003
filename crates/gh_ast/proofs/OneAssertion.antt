-- Assertions are spelled in one way at most.
use Rattle.std.proofs.Common.{◌≡◌, ◌⊎◌, inl, inr, List, [], ◌∷◌, Bool, false, refl, sym, ap, subst}
use Rattle.gh_base.specs.declared.place.Span.{Span}
use Rattle.gh_ast.specs.declared.Operand.{Operand}
use Rattle.gh_ast.specs.declared.sign.Sign.{Sign}
use Rattle.gh_ast.specs.declared.sign.Sign.TheVariants as sg
use Rattle.gh_ast.specs.declared.sign.Keyword.{Keyword}
use Rattle.gh_ast.specs.declared.sign.Keyword.TheVariants as kw
use Rattle.gh_ast.specs.Tokens.{Token, key, sign}
use Rattle.gh_ast.specs.Plain.{Assertion, comparison, points_to, segment, no_assertions, assertion_first}
use Rattle.gh_ast.specs.Plain as plain
use Rattle.gh_ast.specs.Grammar.{NoKey, SpellsOperand, SpellsItem, emp, acc, lseg, pointed, same, different, by_cases}
use Rattle.gh_ast.specs.Grammar.{in_brackets, SpellsAssertion, one_item, items, SpellsItems, last_item, next_item}
use Rattle.gh_ast.specs.Grammar.{SpellsAlternatives, last_alternative, next_alternative, SpellsAfter, no_clause}
use Rattle.gh_ast.specs.Grammar.{a_clause, SpellsClause, SpellsEnsures}
use Rattle.gh_ast.specs.Readings.{AreOne, IsUnique}
use Rattle.gh_ast.proofs.OneValue.{one_operand}
use Rattle.gh_ast.proofs.OneTest.{one_test}

-- a comparison of two operands, by its first sign
one_comparison : (ts us vs : List Token) (l m r s : Operand) (a b : Bool) (x y : Sign) (p q : Span)
    (rest left : List Token)
    → SpellsOperand ts l (sign x p ∷ us) → SpellsOperand us r rest → SpellsOperand ts m (sign y q ∷ vs)
    → SpellsOperand vs s left
    → (x ≡ y → a ≡ b) → AreOne (comparison l a r) (comparison m b s) rest left
one_comparison ts us vs l m r s a b x y p q rest left d e f g agree =
    let one = one_operand ts l m _ _ d f in
    let w = one.rest in
    let o : vs ≡ us = cc in
    let two = one_operand us r s rest left e (subst (λ z. SpellsOperand z s left) o g) in
    let u = one.value in let v = two.value in
    let t : a ≡ b = agree cc in
    record { value = cc; rest = two.rest }

one_segment : (ts us vs : List Token) (l m r s : Operand) (p q c d : Span) (rest left : List Token)
    → SpellsOperand ts l (sign sg.Comma p ∷ us) → SpellsOperand us r (sign sg.ParenClose c ∷ rest)
    → SpellsOperand ts m (sign sg.Comma q ∷ vs) → SpellsOperand vs s (sign sg.ParenClose d ∷ left)
    → AreOne (segment l r) (segment m s) rest left
one_segment ts us vs l m r s p q c d rest left e f g h =
    let one = one_operand ts l m _ _ e g in
    let w = one.rest in
    let o : vs ≡ us = cc in
    let two = one_operand us r s _ _ f (subst (λ z. SpellsOperand z s (sign sg.ParenClose d ∷ left)) o h) in
    let u = one.value in let v = two.value in let t = two.rest in
    record { value = cc; rest = cc }

mutual
  pub one_member : (ts : List Token) → IsUnique (SpellsItem ts)
  one_member _ _ _ r q emp emp = record { value = refl; rest = refl }
  one_member _ _ _ r q acc acc = record { value = refl; rest = refl }
  one_member _ _ _ r q (lseg a b) (lseg c d) = one_segment _ _ _ _ _ _ _ _ _ _ _ r q a b c d
  one_member _ _ _ r q (pointed {o = o} a) (pointed b) = let one = one_operand _ _ _ r q a b in
      record { value = ap (points_to o) one.value; rest = one.rest }
  one_member _ _ _ r q (by_cases {c = c} {d = d} {e = e} {f = f} {us = us} {vs = vs} {x = x} {y = y} t a b)
      (by_cases {c = g} {d = h} {e = i} {f = j} {us = ws} {vs = zs} {x = m} {y = n} s k l) =
      let one = one_test false _ _ _ _ _ t s in
      let one_rest = one.rest in
      let o : ws ≡ us = cc in
      let between = λ (p q u : Span) (w : List Token). sign sg.BraceClose p ∷ key kw.Else q ∷ sign sg.BraceOpen u ∷ w in
      let two =
      one_formula us x m (between c d e vs) (between g h i zs) a
      (subst (λ z. SpellsAssertion z m (between g h i zs)) o k) in
      let two_rest = two.rest in
      let w : zs ≡ vs = cc in
      let three =
      one_formula vs y n (sign sg.BraceClose f ∷ r) (sign sg.BraceClose j ∷ q) b
      (subst (λ z. SpellsAssertion z n (sign sg.BraceClose j ∷ q)) w l) in
      let three_rest = three.rest in
      let u = one.value in let v = two.value in let z = three.value in
      record { value = cc; rest = cc }
  one_member _ _ _ r q (in_brackets a) (in_brackets b) = let one = one_formula _ _ _ _ _ a b in let w = one.rest in
      record { value = one.value; rest = cc }
  one_member ts _ _ r q (same a b) (same c d) = one_comparison ts _ _ _ _ _ _ _ _ _ _ _ _ r q a b c d (λ e. refl)
  one_member ts _ _ r q (same a b) (different c d) = one_comparison ts _ _ _ _ _ _ _ _ _ _ _ _ r q a b c d (λ e. cc)
  one_member ts _ _ r q (different a b) (same c d) = one_comparison ts _ _ _ _ _ _ _ _ _ _ _ _ r q a b c d (λ e. cc)
  one_member ts _ _ r q (different a b) (different c d) =
      one_comparison ts _ _ _ _ _ _ _ _ _ _ _ _ r q a b c d (λ e. refl)
  one_member _ _ _ r q emp (same a b) = elim a [ ]
  one_member _ _ _ r q (same a b) emp = elim a [ ]
  one_member _ _ _ r q emp (different a b) = elim a [ ]
  one_member _ _ _ r q (different a b) emp = elim a [ ]
  one_member _ _ _ r q acc (same a b) = elim a [ ]
  one_member _ _ _ r q (same a b) acc = elim a [ ]
  one_member _ _ _ r q acc (different a b) = elim a [ ]
  one_member _ _ _ r q (different a b) acc = elim a [ ]
  one_member _ _ _ r q (lseg d e) (same a b) = elim a [ ]
  one_member _ _ _ r q (same a b) (lseg d e) = elim a [ ]
  one_member _ _ _ r q (lseg d e) (different a b) = elim a [ ]
  one_member _ _ _ r q (different a b) (lseg d e) = elim a [ ]
  one_member _ _ _ r q (pointed d) (same a b) = elim a [ ]
  one_member _ _ _ r q (same a b) (pointed d) = elim a [ ]
  one_member _ _ _ r q (pointed d) (different a b) = elim a [ ]
  one_member _ _ _ r q (different a b) (pointed d) = elim a [ ]
  one_member _ _ _ r q (by_cases d e f) (same a b) = elim a [ ]
  one_member _ _ _ r q (same a b) (by_cases d e f) = elim a [ ]
  one_member _ _ _ r q (by_cases d e f) (different a b) = elim a [ ]
  one_member _ _ _ r q (different a b) (by_cases d e f) = elim a [ ]
  one_member _ _ _ r q (in_brackets d) (same a b) = elim a [ ]
  one_member _ _ _ r q (same a b) (in_brackets d) = elim a [ ]
  one_member _ _ _ r q (in_brackets d) (different a b) = elim a [ ]
  one_member _ _ _ r q (different a b) (in_brackets d) = elim a [ ]

  pub one_formula : (ts : List Token) → IsUnique (SpellsAssertion ts)
  one_formula ts x y r q (one_item a n) (one_item b m) = one_member ts x y r q a b
  one_formula ts x _ r q (one_item a n) (items {p = p} {us = us} b m) = let one = one_member ts _ _ _ _ a b in
      absurd (n p us one.rest)
  one_formula ts _ y r q (items {p = p} {us = us} a m) (one_item b n) = let one = one_member ts _ _ _ _ a b in
      absurd (n p us (sym one.rest))
  one_formula ts _ _ r q (items {us = us} {l = l} a d) (items {us = vs} {l = m} b e) =
      let one = one_member ts _ _ _ _ a b in
      let w = one.rest in
      let o : vs ≡ us = cc in
      let two = one_members us l m r q d (subst (λ z. SpellsItems z m q) o e) in
      let u = one.value in let v = two.value in
      record { value = cc; rest = two.rest }

  pub one_members : (ts : List Token) → IsUnique (SpellsItems ts)
  one_members ts _ _ r q (last_item a n) (last_item b m) =
      let one = one_member ts _ _ r q a b in
      record { value = ap (λ t. assertion_first t no_assertions) one.value; rest = one.rest }
  one_members ts _ _ r q (last_item a n) (next_item {p = p} {us = us} b m) = let one = one_member ts _ _ _ _ a b in
      absurd (n p us one.rest)
  one_members ts _ _ r q (next_item {p = p} {us = us} a m) (last_item b n) = let one = one_member ts _ _ _ _ a b in
      absurd (n p us (sym one.rest))
  one_members ts _ _ r q (next_item {us = us} {l = l} a d) (next_item {us = vs} {l = m} b e) =
      let one = one_member ts _ _ _ _ a b in
      let w = one.rest in
      let o : vs ≡ us = cc in
      let two = one_members us l m r q d (subst (λ z. SpellsItems z m q) o e) in
      let u = one.value in let v = two.value in
      record { value = cc; rest = two.rest }

-- none, or the word and an assertion
pub record IsMissing (X : Type 0) (missing : X) (k : Keyword) (ts : List Token) (x : X)
    (rest : List Token) : Type 0 where
  pub absent : NoKey k ts
  pub empty : x ≡ missing
  pub same : ts ≡ rest

pub record IsThere (X : Type 0) (Part : List Token → X → List Token → Type 0) (k : Keyword) (ts : List Token) (x : X)
    (rest : List Token) : Type 0 where
  pub place : Span
  pub inner : List Token
  pub front : ts ≡ key k place ∷ inner
  pub part : Part inner x rest

after_cases : (X : Type 0) (Part : List Token → X → List Token → Type 0) (missing : X) (k : Keyword) (ts : List Token)
    (x : X) (rest : List Token)
    → SpellsAfter X Part missing k ts x rest → IsMissing X missing k ts x rest ⊎ IsThere X Part k ts x rest
after_cases X Part missing k ts _ _ (no_clause n) = inl (record { absent = n; empty = refl; same = refl })
after_cases X Part missing k _ x rest (a_clause {p = p} {ts = ts} a) =
    inr (record { place = p; inner = ts; front = refl; part = a })

both_there : (X : Type 0) (Part : List Token → X → List Token → Type 0) → ((ts : List Token) → IsUnique (Part ts))
    → (k : Keyword) (ts : List Token) (x y : X) (r q : List Token)
    → IsThere X Part k ts x r → IsThere X Part k ts y q → AreOne x y r q
both_there X Part one k ts x y r q a b =
    let e = a.front in let f = b.front in
    let o : b.inner ≡ a.inner = cc in
    one a.inner x y r q a.part (subst (λ z. Part z y q) o b.part)

-- a part after its word is one where the part is
one_after : (X : Type 0) (Part : List Token → X → List Token → Type 0) → ((ts : List Token) → IsUnique (Part ts))
    → (missing : X) (k : Keyword) (ts : List Token)
    → IsUnique (SpellsAfter X Part missing k ts)
one_after X Part one missing k ts x y r q s t =
    elim (after_cases X Part missing k ts x r s) [
      | inl a ↦
          elim (after_cases X Part missing k ts y q t) [
            | inl b ↦ (let e = a.empty in let f = b.empty in let g = a.same in let h = b.same in
                record { value = cc; rest = cc })
            | inr b ↦ absurd (a.absent b.place b.inner b.front)
          ]
      | inr a ↦
          elim (after_cases X Part missing k ts y q t) [
            | inl b ↦ absurd (b.absent a.place a.inner a.front)
            | inr b ↦ both_there X Part one k ts x y r q a b
          ]
    ]

pub one_clause : (k : Keyword) (ts : List Token) → IsUnique (SpellsClause k ts)
one_clause = one_after Assertion SpellsAssertion one_formula plain.empty

pub one_alternatives : (ts : List Token) → IsUnique (SpellsAlternatives ts)
one_alternatives ts _ _ r q (last_alternative a n) (last_alternative b m) =
    let one = one_formula ts _ _ r q a b in record { value = ap (λ t. t ∷ []) one.value; rest = one.rest }
one_alternatives ts _ _ r q (last_alternative a n) (next_alternative {p = p} {us = us} b m) =
    let one = one_formula ts _ _ _ _ a b in absurd (n p us one.rest)
one_alternatives ts _ _ r q (next_alternative {p = p} {us = us} a m) (last_alternative b n) =
    let one = one_formula ts _ _ _ _ a b in absurd (n p us (sym one.rest))
one_alternatives ts _ _ r q (next_alternative {us = us} {l = l} a d) (next_alternative {us = vs} {l = m} b e) =
    let one = one_formula ts _ _ _ _ a b in
    let w = one.rest in
    let o : vs ≡ us = cc in
    let two = one_alternatives us l m r q d (subst (λ z. SpellsAlternatives z m q) o e) in
    let u = one.value in let v = two.value in
    record { value = cc; rest = two.rest }

pub one_ensures : (ts : List Token) → IsUnique (SpellsEnsures ts)
one_ensures = one_after (List Assertion) SpellsAlternatives one_alternatives (plain.empty ∷ []) kw.Ensures
