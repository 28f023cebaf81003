-- How assertions are made, and their rules as those that are put together.
use Rattle.std.proofs.Common.{◌≡◌, ◌∙◌, List, [], ◌∷◌, ◌++◌, map, Bool, true, false, refl, sym, subst, ap, length, ◌<◌}
use Rattle.std.proofs.Common.{arith}
use Rattle.std.proofs.lemmas.List.{map-append}
use Rattle.gh_base.specs.declared.place.Span.{Span}
use Rattle.gh_ast.specs.declared.Occ.{Occ}
use Rattle.gh_ast.specs.declared.Operand.{Operand}
use Rattle.gh_ast.specs.declared.Operand.TheVariants as operand
use Rattle.gh_ast.specs.declared.Assertion.{Assertion as CodeAssertion}
use Rattle.gh_ast.specs.declared.sign.Sign.TheVariants as sg
use Rattle.gh_ast.specs.declared.sign.Keyword.{Keyword}
use Rattle.gh_ast.specs.declared.sign.Keyword.TheVariants as kw
use Rattle.gh_ast.specs.Tokens.{Token, named, key, sign, first_place}
use Rattle.gh_ast.specs.Plain.{Cond, Assertion, empty, comparison, points_to, cell, segment, star, cases, Assertions}
use Rattle.gh_ast.specs.Plain.{no_assertions, assertion_first, assertion_of}
use Rattle.gh_ast.specs.Grammar.{NoSign, NoKey, SpellsOperand, null_operand, variable, SpellsCond, SpellsItem, emp, acc}
use Rattle.gh_ast.specs.Grammar.{lseg, pointed, same, different, by_cases, in_brackets, SpellsAssertion, one_item}
use Rattle.gh_ast.specs.Grammar.{items, SpellsItems, last_item, next_item, SpellsAlternatives, last_alternative}
use Rattle.gh_ast.specs.Grammar.{next_alternative, SpellsClause, SpellsEnsures, no_clause, a_clause}
use Rattle.gh_ast.proofs.OneAssertion.{one_member, one_formula, one_members, one_clause, one_alternatives, one_ensures}
use Rattle.gh_ast.proofs.Shorter.{shorter_test, shorter_assertion}
use Rattle.gh_parse.specs.declared.cursor.LookAhead.{LookAhead}
use Rattle.gh_parse.specs.declared.cursor.LookAhead.TheVariants as ahead
use Rattle.gh_parse.specs.Stops.{NoToken, Tok, tok, Any, any, Seq, seq, Opt, without, with, EndsHere, IsAny, goes_on}
use Rattle.gh_parse.specs.Stops.{Stops}
use Rattle.gh_parse.specs.Answers.{HasKey, IsAhead, SpellsComparison, IsBetween}
use Rattle.gh_parse.proofs.Rules.{Exact, exact_tok, exact_seq, exact_with, exact_without, kept, each, form, by, past}
use Rattle.gh_parse.proofs.Rules.{told, begins, begins_not, nothing_here, next, after, in_opt, Ends, ends_tok, ends_seq}
use Rattle.gh_parse.proofs.Rules.{ends_opt, ends_by, ends_seq_any, sentences_tok}
use Rattle.gh_parse.proofs.Turns.{Goes, before}
use Rattle.gh_parse.proofs.ValueForms.{exact_operand}
use Rattle.gh_parse.proofs.TestForms.{Guard, between, exact_between, exact_within, ends_between, exact_test}
use Rattle.gh_parse.proofs.TestForms.{exact_comparison}

abbrev pub AnOperand : List Token → List Token → Type 0
AnOperand = Any SpellsOperand

abbrev pub AComparison : List Token → List Token → Type 0
AComparison = Any SpellsComparison

abbrev pub Braced : List Token → List Token → Type 0
Braced = Any (IsBetween sg.BraceOpen sg.BraceClose SpellsAssertion)

abbrev pub Bracketed : List Token → List Token → Type 0
Bracketed = Any (IsBetween sg.ParenOpen sg.ParenClose SpellsAssertion)

-- items of fixed tokens
pub empty_item : {ts rest : List Token} {p : Span} → ts ≡ key kw.Emp p ∷ rest → SpellsItem ts empty rest
empty_item e = rw e emp

make_emp : (xs r : List Token) → Tok (key kw.Emp) xs r → Any SpellsItem xs r
make_emp _ _ tok = any emp

abbrev pub Allocated : List Token → List Token → Type 0
Allocated = Seq (Tok (key kw.Acc)) (Seq (Tok (sign sg.ParenOpen)) (Seq (Tok named) (Tok (sign sg.ParenClose))))

pub make_acc : (xs r : List Token) → Allocated xs r → Any SpellsItem xs r
make_acc _ _ (seq tok (seq tok (seq tok tok))) = any acc

pub part_acc : (p : Span) (xs r : List Token) → Any SpellsItem (key kw.Acc p ∷ xs) r → Allocated (key kw.Acc p ∷ xs) r
part_acc p _ _ (any acc) = seq tok (seq tok (seq tok tok))
part_acc p _ _ (any (same a b)) = elim a [ ]
part_acc p _ _ (any (different a b)) = elim a [ ]

pub allocated : {ts us vs ws rest : List Token} {p q r : Span} {o : Occ} → ts ≡ key kw.Acc p ∷ us
    → us ≡ sign sg.ParenOpen q ∷ vs → vs ≡ named o ∷ ws → ws ≡ sign sg.ParenClose r ∷ rest
    → SpellsItem ts (cell o) rest
allocated e f g h = rw (e, f, g, h) acc

abbrev pub Segment : List Token → List Token → Type 0
Segment =
    Seq (Tok (key kw.Lseg)) (Seq (Tok (sign sg.ParenOpen))
    (Seq AnOperand (Seq (Tok (sign sg.Comma)) (Seq AnOperand (Tok (sign sg.ParenClose))))))

pub make_lseg : (xs r : List Token) → Segment xs r → Any SpellsItem xs r
make_lseg _ _ (seq tok (seq tok (seq (any a) (seq tok (seq (any b) tok))))) = any (lseg a b)

pub part_lseg : (p : Span) (xs r : List Token) → Any SpellsItem (key kw.Lseg p ∷ xs) r → Segment (key kw.Lseg p ∷ xs) r
part_lseg p _ _ (any (lseg a b)) = seq tok (seq tok (seq (any a) (seq tok (seq (any b) tok))))
part_lseg p _ _ (any (same a b)) = elim a [ ]
part_lseg p _ _ (any (different a b)) = elim a [ ]

pub segmented : {ts us vs ws zs os rest : List Token} {p q r s : Span} {x y : Operand} → ts ≡ key kw.Lseg p ∷ us
    → us ≡ sign sg.ParenOpen q ∷ vs → SpellsOperand vs x ws → ws ≡ sign sg.Comma r ∷ zs
    → SpellsOperand zs y os → os ≡ sign sg.ParenClose s ∷ rest → SpellsItem ts (segment x y) rest
segmented {vs = vs} {zs = zs} {x = x} {y = y} e f a g b k =
    rw (e, f) (lseg (subst (λ z. SpellsOperand vs x z) g a) (subst (λ z. SpellsOperand zs y z) k b))

-- items that begin with a name
abbrev pub Pointed : List Token → List Token → Type 0
Pointed = Seq (Tok (sign sg.Dot)) (Seq (Tok (key kw.Next)) (Seq (Tok (sign sg.Arrow)) AnOperand))

abbrev pub Compared : List Token → List Token → Type 0
Compared = Seq AComparison AnOperand

make_pointed : {o : Occ} (xs r : List Token) → Pointed xs r → Any SpellsItem (named o ∷ xs) r
make_pointed _ _ (seq tok (seq tok (seq tok (any a)))) = any (pointed a)

part_pointed : {o : Occ} (p : Span) (xs r : List Token) → Any SpellsItem (named o ∷ sign sg.Dot p ∷ xs) r
    → Pointed (sign sg.Dot p ∷ xs) r
part_pointed p _ _ (any (pointed a)) = seq tok (seq tok (seq tok (any a)))
part_pointed p _ _ (any (same a b)) = elim a [ ]
part_pointed p _ _ (any (different a b)) = elim a [ ]

pub compared : {ts us vs rest : List Token} {l r : Operand} (b : Bool) → SpellsOperand ts l us
    → SpellsComparison us b vs → SpellsOperand vs r rest → SpellsItem ts (comparison l b r) rest
compared {ts = ts} {l = l} true a c d = same (subst (λ z. SpellsOperand ts l z) c.1 a) d
compared {ts = ts} {l = l} false a c d = different (subst (λ z. SpellsOperand ts l z) c.1 a) d

make_compared : {o : Occ} (xs r : List Token) → Compared xs r → Any SpellsItem (named o ∷ xs) r
make_compared _ _ (seq (any {x = b} c) (any a)) = any (compared b variable c a)

part_compared : {o : Occ} (xs r : List Token) → NoSign sg.Dot xs → Any SpellsItem (named o ∷ xs) r → Compared xs r
part_compared _ _ n (any (pointed a)) = absurd (n _ _ refl)
part_compared _ _ n (any (same variable b)) = seq (any {x = true} (_, refl)) (any b)
part_compared _ _ n (any (different variable b)) = seq (any {x = false} (_, refl)) (any b)

-- a dot follows the name, so a cell does; else a comparison does
pub in_pointed : {F : List Token → Type 0} {o : Occ} {p : Span} {ts us vs left : List Token} → ts ≡ named o ∷ us
    → us ≡ sign sg.Dot p ∷ vs
    → Stops F (Seq (Tok (key kw.Next)) (Seq (Tok (sign sg.Arrow)) AnOperand)) vs left → Stops F (Any SpellsItem) ts left
in_pointed e f s = past e make_pointed (told _ _ _ f part_pointed) (after _ f s)

pub in_compared : {F : List Token → Type 0} {o : Occ} {ts us left : List Token} → ts ≡ named o ∷ us → NoSign sg.Dot us
    → Stops F Compared us left → Stops F (Any SpellsItem) ts left
in_compared e n s = past e make_compared (λ xs r d h. part_compared xs r (begins_not n d) h) s

pub points : {ts us vs ws zs rest : List Token} {o : Occ} {p q r : Span} {y : Operand} → ts ≡ named o ∷ us
    → us ≡ sign sg.Dot p ∷ vs → vs ≡ key kw.Next q ∷ ws → ws ≡ sign sg.Arrow r ∷ zs
    → SpellsOperand zs y rest → SpellsItem ts (points_to o y) rest
points e f g h a = rw (e, f, g, h) (pointed a)

pub compared_name : {ts us vs ws rest : List Token} {o : Occ} {r : Operand} (b : Bool) → ts ≡ named o ∷ us → vs ≡ us
    → SpellsComparison vs b ws → SpellsOperand ws r rest
    → SpellsItem ts (comparison (operand.Var o) b r) rest
compared_name b e s c d = rw (e, sym s) (compared b variable c d)

-- a comparison that begins with `null`
make_null : {p : Span} (xs r : List Token) → Compared xs r → Any SpellsItem (key kw.Null p ∷ xs) r
make_null _ _ (seq (any {x = b} c) (any a)) = any (compared b null_operand c a)

part_null : {p : Span} (xs r : List Token) → Any SpellsItem (key kw.Null p ∷ xs) r → Compared xs r
part_null _ _ (any (same null_operand b)) = seq (any {x = true} (_, refl)) (any b)
part_null _ _ (any (different null_operand b)) = seq (any {x = false} (_, refl)) (any b)

pub in_null : {F : List Token → Type 0} {p : Span} {ts us left : List Token} → ts ≡ key kw.Null p ∷ us
    → Stops F Compared us left → Stops F (Any SpellsItem) ts left
in_null e s = past e make_null (λ xs r d h. part_null xs r h) s

pub compared_null : {ts us ws rest : List Token} {p : Span} {r : Operand} (b : Bool) → ts ≡ key kw.Null p ∷ us
    → SpellsComparison us b ws → SpellsOperand ws r rest
    → SpellsItem ts (comparison (operand.Null p) b r) rest
compared_null b e c d = rw e (compared b null_operand c d)

-- a choice
abbrev pub Choice : List Token → List Token → Type 0
Choice = Seq (Tok (key kw.If)) (Seq (Guard false) (Seq Braced (Seq (Tok (key kw.Else)) Braced)))

pub chosen : {ts us vs ws zs rest : List Token} {p q : Span} {t : Cond} {m n : Assertion} → ts ≡ key kw.If p ∷ us
    → IsBetween sg.ParenOpen sg.ParenClose (SpellsCond false) us t vs
    → IsBetween sg.BraceOpen sg.BraceClose SpellsAssertion vs m ws → ws ≡ key kw.Else q ∷ zs
    → IsBetween sg.BraceOpen sg.BraceClose SpellsAssertion zs n rest → SpellsItem ts (cases t m n) rest
chosen {zs = zs} {q = q} {t = t} {m = m} e a b f d =
    let s = subst (λ z. SpellsCond false a.inner t (sign sg.ParenClose a.last ∷ z)) b.front a.within in
    let i = subst (λ z. SpellsAssertion b.inner m (sign sg.BraceClose b.last ∷ z)) f b.within in
    let k = subst (λ z. SpellsAssertion b.inner m (sign sg.BraceClose b.last ∷ key kw.Else q ∷ z)) d.front i in
    rw (e, a.front) (by_cases s k d.within)

pub make_choice : (xs r : List Token) → Choice xs r → Any SpellsItem xs r
make_choice _ _ (seq tok (seq (any t) (seq (any a) (seq tok (any b))))) = any (chosen refl t a refl b)

pub part_choice : (p : Span) (xs r : List Token) → Any SpellsItem (key kw.If p ∷ xs) r → Choice (key kw.If p ∷ xs) r
part_choice p _ _ (any (by_cases t a b)) =
    seq tok (seq (any (between _ t)) (seq (any (between _ a)) (seq tok (any (between _ b)))))
part_choice p _ _ (any (same a b)) = elim a [ ]
part_choice p _ _ (any (different a b)) = elim a [ ]

-- an assertion in brackets
pub bracketed : {ts : List Token} (x : Assertion) (rest : List Token)
    → IsBetween sg.ParenOpen sg.ParenClose SpellsAssertion ts x rest → SpellsItem ts x rest
bracketed x rest b = rw b.front (in_brackets b.within)

make_bracketed : (xs r : List Token) → Bracketed xs r → Any SpellsItem xs r
make_bracketed _ r (any b) = any (bracketed _ r b)

part_bracketed : (xs r : List Token) → NoToken named xs → ((k : Keyword) → NoKey k xs) → Any SpellsItem xs r
    → Bracketed xs r
part_bracketed _ _ n m (any emp) = absurd (m _ _ _ refl)
part_bracketed _ _ n m (any acc) = absurd (m _ _ _ refl)
part_bracketed _ _ n m (any (lseg a b)) = absurd (m _ _ _ refl)
part_bracketed _ _ n m (any (pointed a)) = absurd (n _ _ refl)
part_bracketed _ _ n m (any (same null_operand b)) = absurd (m _ _ _ refl)
part_bracketed _ _ n m (any (same variable b)) = absurd (n _ _ refl)
part_bracketed _ _ n m (any (different null_operand b)) = absurd (m _ _ _ refl)
part_bracketed _ _ n m (any (different variable b)) = absurd (n _ _ refl)
part_bracketed _ _ n m (any (by_cases t a b)) = absurd (m _ _ _ refl)
part_bracketed _ _ n m (any (in_brackets a)) = any (between _ a)

no_name : {ts : List Token} (a : LookAhead) → IsAhead a ts → (a ≡ ahead.Name → ⊥) → NoToken named ts
no_name ahead.Name i n o rest e = n refl
no_name (ahead.Key k) i n o rest e = let f = i.2 in cc
no_name (ahead.Sign s) i n o rest e = let f = i.2 in cc
no_name ahead.End i n o rest e = cc

no_key : {ts : List Token} (a : LookAhead) → IsAhead a ts → ((k : Keyword) → a ≡ ahead.Key k → ⊥) → (k : Keyword)
    → NoKey k ts
no_key ahead.Name i n k p rest e = let f = i.2 in cc
no_key (ahead.Key j) i n k p rest e = n j refl
no_key (ahead.Sign s) i n k p rest e = let f = i.2 in cc
no_key ahead.End i n k p rest e = cc

pub in_bracketed : {F : List Token → Type 0} {ts left : List Token} (a : LookAhead) → IsAhead a ts
    → (a ≡ ahead.Name → ⊥) → ((k : Keyword) → a ≡ ahead.Key k → ⊥)
    → Stops F Bracketed ts left → Stops F (Any SpellsItem) ts left
in_bracketed a i n m s =
    by make_bracketed (λ xs r d h. part_bracketed xs r (begins_not (no_name a i n) d)
    (λ k. begins_not (no_key a i m k) d) h) s

-- items with `&*&` between them
abbrev pub Items : List Token → List Token → Type 0
Items = Seq (Any SpellsItem) (Opt (sign sg.Star) (Any SpellsItems))

pub make_assertion : (xs r : List Token) → Items xs r → Any SpellsAssertion xs r
make_assertion _ _ (seq (any a) (without n)) = any (one_item a n)
make_assertion _ _ (seq (any a) (with (any b))) = any (items a b)

pub part_assertion : (xs r : List Token) → Any SpellsAssertion xs r → Items xs r
part_assertion _ _ (any (one_item a n)) = seq (any a) (without n)
part_assertion _ _ (any (items a b)) = seq (any a) (with (any b))

pub make_items : (xs r : List Token) → Items xs r → Any SpellsItems xs r
make_items _ _ (seq (any a) (without n)) = any (last_item a n)
make_items _ _ (seq (any a) (with (any b))) = any (next_item a b)

pub part_items : (xs r : List Token) → Any SpellsItems xs r → Items xs r
part_items _ _ (any (last_item a n)) = seq (any a) (without n)
part_items _ _ (any (next_item a b)) = seq (any a) (with (any b))

-- each item is exact
make_named : (xs r : List Token) → Seq (Tok named) Pointed xs r → Any SpellsItem xs r
make_named _ _ (seq tok a) = make_pointed _ _ a

make_equation : (xs r : List Token) → Seq AnOperand Compared xs r → Any SpellsItem xs r
make_equation _ _ (seq (any a) (seq (any {x = b} c) (any d))) = any (compared b a c d)

exact_compared : (b : Bool) {ts us vs rest : List Token} {l r : Operand} → SpellsOperand ts l us
    → SpellsComparison us b vs → SpellsOperand vs r rest → Exact (Seq AnOperand Compared) ts rest
exact_compared b a c d =
    exact_seq (exact_operand _ _ (any a)) (exact_seq (exact_comparison _ _ (any {x = b} c)) (exact_operand _ _ (any d)))

mutual
  pub exact_item : (ts : List Token) (x : Assertion) (us : List Token) → SpellsItem ts x us
      → Exact (Any SpellsItem) ts us
  exact_item _ _ _ emp = kept _ (one_member _) emp make_emp (exact_tok tok)
  exact_item _ _ _ acc =
      kept _ (one_member _) acc make_acc
      (exact_seq (exact_tok tok) (exact_seq (exact_tok tok) (exact_seq (exact_tok tok) (exact_tok tok))))
  exact_item _ _ _ (lseg a b) =
      kept _ (one_member _) (lseg a b) make_lseg
      (exact_seq (exact_tok tok)
      (exact_seq (exact_tok tok)
      (exact_seq (exact_operand _ _ (any a))
      (exact_seq (exact_tok tok) (exact_seq (exact_operand _ _ (any b)) (exact_tok tok))))))
  exact_item _ _ _ (pointed a) =
      kept _ (one_member _) (pointed a) make_named
      (exact_seq (exact_tok tok)
      (exact_seq (exact_tok tok)
      (exact_seq (exact_tok tok) (exact_seq (exact_tok tok) (exact_operand _ _ (any a))))))
  exact_item _ _ _ (same a b) = kept _ (one_member _) (same a b) make_equation (exact_compared true a (_, refl) b)
  exact_item _ _ _ (different a b) =
      kept _ (one_member _) (different a b) make_equation (exact_compared false a (_, refl) b)
  exact_item _ _ _ (by_cases t a b) =
      kept _ (one_member _) (by_cases t a b) make_choice
      (exact_seq (exact_tok tok)
      (exact_seq (exact_within (exact_test _ _ _ t))
      (exact_seq (exact_within (exact_assertion _ _ _ a))
      (exact_seq (exact_tok tok) (exact_within (exact_assertion _ _ _ b))))))
  exact_item _ _ _ (in_brackets a) =
      kept _ (one_member _) (in_brackets a) make_bracketed (exact_within (exact_assertion _ _ _ a))

  pub exact_assertion : (ts : List Token) (x : Assertion) (us : List Token) → SpellsAssertion ts x us
      → Exact (Any SpellsAssertion) ts us
  exact_assertion _ _ _ (one_item a n) =
      kept _ (one_formula _) (one_item a n) make_assertion
      (exact_seq (exact_item _ _ _ a) (exact_without (λ p. refl) n))
  exact_assertion _ _ _ (items a b) =
      kept _ (one_formula _) (items a b) make_assertion
      (exact_seq (exact_item _ _ _ a) (exact_with _ (exact_items _ _ _ b)))

  exact_items : (ts : List Token) (l : Assertions) (us : List Token) → SpellsItems ts l us
      → Exact (Any SpellsItems) ts us
  exact_items _ _ _ (last_item a n) =
      kept _ (one_members _) (last_item a n) make_items (exact_seq (exact_item _ _ _ a) (exact_without (λ p. refl) n))
  exact_items _ _ _ (next_item a b) =
      kept _ (one_members _) (next_item a b) make_items
      (exact_seq (exact_item _ _ _ a) (exact_with _ (exact_items _ _ _ b)))

pub ends_item : Ends EndsHere (Any SpellsItem)
ends_item = ends_by make_emp (ends_tok first_place refl)

pub ends_assertion : Ends EndsHere (Any SpellsAssertion)
ends_assertion = ends_by make_assertion (ends_seq ends_item (ends_opt (λ p. refl)))

pub ends_braced : (F : List Token → Type 0) → Ends F Braced
ends_braced F = ends_between (λ p. refl) (λ p. refl) ends_assertion

pub exact_braced : (ts us : List Token) → Braced ts us → Exact Braced ts us
exact_braced ts us a = exact_between (each exact_assertion) ts us a

pub ends_choice : Ends EndsHere (Seq Braced (Seq (Tok (key kw.Else)) Braced))
ends_choice = ends_seq_any (ends_braced IsAny) (sentences_tok first_place (ends_braced EndsHere))

-- a word by which no item begins
other_word : {k : Keyword} {p : Span} {xs r : List Token} → (k ≡ kw.Emp → ⊥) → (k ≡ kw.Acc → ⊥) → (k ≡ kw.Lseg → ⊥)
    → (k ≡ kw.If → ⊥) → (k ≡ kw.Null → ⊥)
    → Any SpellsItem (key k p ∷ xs) r → ⊥
other_word a b c d e (any emp) = a refl
other_word a b c d e (any acc) = b refl
other_word a b c d e (any (lseg x y)) = c refl
other_word a b c d e (any (by_cases t x y)) = d refl
other_word a b c d e (any (same null_operand y)) = e refl
other_word a b c d e (any (different null_operand y)) = e refl

pub no_item : {k : Keyword} {ts : List Token} → HasKey k ts → (k ≡ kw.Emp → ⊥) → (k ≡ kw.Acc → ⊥) → (k ≡ kw.Lseg → ⊥)
    → (k ≡ kw.If → ⊥) → (k ≡ kw.Null → ⊥)
    → Stops EndsHere (Any SpellsItem) ts ts
no_item f a b c d e =
    nothing_here ends_item (λ xs r s h. other_word a b c d e (subst (λ z. Any SpellsItem z r) (begins f.2 s).1 h))

-- items one by one
pub assertion_alone : {ts us vs : List Token} {t : Assertion} → SpellsItem ts t us → NoSign sg.Star us → vs ≡ us
    → SpellsAssertion ts t vs
assertion_alone {ts = ts} {t = t} a n e = subst (λ z. SpellsAssertion ts t z) (sym e) (one_item a n)

pub assertion_start : {ts us vs : List Token} {p : Span} (xs ys : List CodeAssertion) (c : CodeAssertion)
    → SpellsItem ts (assertion_of c) us → us ≡ sign sg.Star p ∷ vs → xs ≡ [] → ys ≡ xs ++ c ∷ []
    → Goes EndsHere SpellsItems SpellsAssertion vs ts (λ l. star (before (λ d. assertion_first (assertion_of d)) ys l))
assertion_start {ts = ts} {p = p} xs ys c a e f g =
    record {
      forth = λ l rest h. rw (g, f) (items (subst (λ z. SpellsItem ts (assertion_of c) z) e a) h);
      back = λ left s. form make_assertion part_assertion (next (each exact_item) (any a) (in_opt p e s));
    }

pub items_rest : {ts us vs : List Token} {t : Assertion} {p : Span} → SpellsItem ts t us → us ≡ sign sg.Star p ∷ vs
    → (left : List Token) → Stops EndsHere (Any SpellsItems) vs left → Stops EndsHere (Any SpellsItems) ts left
items_rest {p = p} a e left s = form make_items part_items (next (each exact_item) (any a) (in_opt p e s))

pub items_more : {ts us vs : List Token} {t : Assertion} {p : Span} → SpellsItem ts t us → us ≡ sign sg.Star p ∷ vs
    → (l : Assertions) (rest : List Token) → SpellsItems vs l rest
    → SpellsItems ts (assertion_first t l) rest
items_more {ts = ts} {t = t} a e l rest h = next_item (subst (λ z. SpellsItem ts t z) e a) h

pub items_last : {ts us vs : List Token} {t : Assertion} → SpellsItem ts t us → NoSign sg.Star us → vs ≡ us
    → SpellsItems ts (assertion_first t no_assertions) vs
items_last {ts = ts} {t = t} a n e =
    subst (λ z. SpellsItems ts (assertion_first t no_assertions) z) (sym e) (last_item a n)

-- measures
pub shorter_choosing : (ts : List Token) (t : Cond) (rest : List Token)
    → IsBetween sg.ParenOpen sg.ParenClose (SpellsCond false) ts t rest → length rest < length ts
shorter_choosing ts t rest b = let h = shorter_test b.within in let e = ap length b.front in omega arith

pub shorter_braced : (ts : List Token) (x : Assertion) (rest : List Token)
    → IsBetween sg.BraceOpen sg.BraceClose SpellsAssertion ts x rest → length rest < length ts
shorter_braced ts x rest b = let h = shorter_assertion b.within in let e = ap length b.front in omega arith

-- clauses
abbrev pub Clause : Keyword → List Token → List Token → Type 0
Clause k = Opt (key k) (Any SpellsAssertion)

pub make_clause : {k : Keyword} (xs r : List Token) → Clause k xs r → Any (SpellsClause k) xs r
make_clause _ _ (without n) = any (no_clause n)
make_clause _ _ (with (any a)) = any (a_clause a)

pub part_clause : {k : Keyword} (xs r : List Token) → Any (SpellsClause k) xs r → Clause k xs r
part_clause _ _ (any (no_clause n)) = without n
part_clause _ _ (any (a_clause a)) = with (any a)

pub exact_clause : {k : Keyword} → ((p : Span) → goes_on (key k p) ≡ true) → (ts us : List Token)
    → Any (SpellsClause k) ts us → Exact (Any (SpellsClause k)) ts us
exact_clause {k = k} g _ _ (any (no_clause n)) = kept _ (one_clause k _) (no_clause n) make_clause (exact_without g n)
exact_clause {k = k} g _ _ (any (a_clause a)) =
    kept _ (one_clause k _) (a_clause a) make_clause (exact_with _ (exact_assertion _ _ _ a))

pub ends_clause : {k : Keyword} → ((p : Span) → goes_on (key k p) ≡ true) → Ends EndsHere (Any (SpellsClause k))
ends_clause g = ends_by make_clause (ends_opt g)

pub clause_missing : {k : Keyword} {ts us : List Token} → NoKey k ts → us ≡ ts → SpellsClause k ts empty us
clause_missing {k = k} {ts = ts} n e = subst (λ z. SpellsClause k ts empty z) (sym e) (no_clause n)

pub clause_there : {k : Keyword} {ts us : List Token} {p : Span} → ts ≡ key k p ∷ us
    → (x : Assertion) (rest : List Token) → SpellsAssertion us x rest → SpellsClause k ts x rest
clause_there e x rest a = rw e (a_clause a)

-- alternatives
abbrev pub Alternatives : List Token → List Token → Type 0
Alternatives = Seq (Any SpellsAssertion) (Opt (sign sg.Or) (Any SpellsAlternatives))

pub make_alternatives : (xs r : List Token) → Alternatives xs r → Any SpellsAlternatives xs r
make_alternatives _ _ (seq (any a) (without n)) = any (last_alternative a n)
make_alternatives _ _ (seq (any a) (with (any b))) = any (next_alternative a b)

pub part_alternatives : (xs r : List Token) → Any SpellsAlternatives xs r → Alternatives xs r
part_alternatives _ _ (any (last_alternative a n)) = seq (any a) (without n)
part_alternatives _ _ (any (next_alternative a b)) = seq (any a) (with (any b))

exact_alternatives : (ts : List Token) (l : List Assertion) (us : List Token) → SpellsAlternatives ts l us
    → Exact (Any SpellsAlternatives) ts us
exact_alternatives _ _ _ (last_alternative a n) =
    kept _ (one_alternatives _) (last_alternative a n) make_alternatives
    (exact_seq (exact_assertion _ _ _ a) (exact_without (λ p. refl) n))
exact_alternatives _ _ _ (next_alternative a b) =
    kept _ (one_alternatives _) (next_alternative a b) make_alternatives
    (exact_seq (exact_assertion _ _ _ a) (exact_with _ (exact_alternatives _ _ _ b)))

-- what is ensured
abbrev pub Ensures : List Token → List Token → Type 0
Ensures = Opt (key kw.Ensures) (Any SpellsAlternatives)

pub make_ensures : (xs r : List Token) → Ensures xs r → Any SpellsEnsures xs r
make_ensures _ _ (without n) = any (no_clause n)
make_ensures _ _ (with (any a)) = any (a_clause a)

pub part_ensures : (xs r : List Token) → Any SpellsEnsures xs r → Ensures xs r
part_ensures _ _ (any (no_clause n)) = without n
part_ensures _ _ (any (a_clause a)) = with (any a)

pub exact_ensures : (ts us : List Token) → Any SpellsEnsures ts us → Exact (Any SpellsEnsures) ts us
exact_ensures _ _ (any (no_clause n)) = kept _ (one_ensures _) (no_clause n) make_ensures (exact_without (λ p. refl) n)
exact_ensures _ _ (any (a_clause a)) =
    kept _ (one_ensures _) (a_clause a) make_ensures (exact_with _ (exact_alternatives _ _ _ a))

pub ends_ensures : Ends EndsHere (Any SpellsEnsures)
ends_ensures = ends_by make_ensures (ends_opt (λ p. refl))

pub ensures_missing : {ts us : List Token} → NoKey kw.Ensures ts → us ≡ ts → SpellsEnsures ts (empty ∷ []) us
ensures_missing {ts = ts} n e = subst (λ z. SpellsEnsures ts (empty ∷ []) z) (sym e) (no_clause n)

pub ensures_there : {ts us : List Token} {p : Span} → ts ≡ key kw.Ensures p ∷ us
    → (l : List Assertion) (rest : List Token) → SpellsAlternatives us l rest → SpellsEnsures ts l rest
ensures_there e l rest a = rw e (a_clause a)

pub alternative_last : {ts us vs : List Token} {f : Assertion} → SpellsAssertion ts f us → NoSign sg.Or us → vs ≡ us
    → SpellsAlternatives ts (f ∷ []) vs
alternative_last {ts = ts} {f = f} a n e = subst (λ z. SpellsAlternatives ts (f ∷ []) z) (sym e) (last_alternative a n)

pub alternative_more : {ts us vs : List Token} {f : Assertion} {p : Span} → SpellsAssertion ts f us
    → us ≡ sign sg.Or p ∷ vs → (l : List Assertion) (rest : List Token) → SpellsAlternatives vs l rest
    → SpellsAlternatives ts (f ∷ l) rest
alternative_more {ts = ts} {f = f} a e l rest h = next_alternative (subst (λ z. SpellsAssertion ts f z) e a) h

pub alternatives_rest : {ts us vs : List Token} {f : Assertion} {p : Span} → SpellsAssertion ts f us
    → us ≡ sign sg.Or p ∷ vs
    → (left : List Token) → Stops EndsHere (Any SpellsAlternatives) vs left
    → Stops EndsHere (Any SpellsAlternatives) ts left
alternatives_rest {p = p} a e left s =
    form make_alternatives part_alternatives (next (each exact_assertion) (any a) (in_opt p e s))

-- an assertion more
pub shown_more : (xs ys : List CodeAssertion) (c : CodeAssertion) → ys ≡ xs ++ c ∷ []
    → map assertion_of ys ≡ map assertion_of xs ++ assertion_of c ∷ []
shown_more xs ys c e = ap (map assertion_of) e ∙ map-append assertion_of xs (c ∷ [])

pub shown_missing : {ts us : List Token} (xs ys : List CodeAssertion) (c : CodeAssertion) → NoKey kw.Ensures ts
    → us ≡ ts → xs ≡ [] → ys ≡ xs ++ c ∷ [] → assertion_of c ≡ empty
    → SpellsEnsures ts (map assertion_of ys) us
shown_missing xs ys c n e none one is = rw (one, none, is) (ensures_missing n e)
