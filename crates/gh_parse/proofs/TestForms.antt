-- How tests are made, and their rules as those that are put together.
use Rattle.std.proofs.Common.{◌≡◌, List, [], ◌∷◌, ◌++◌, Bool, true, false, Result, Ok, Err, refl, sym, subst}
use Rattle.std.specs.Result.{result_and}
use Rattle.gh_base.specs.declared.place.Span.{Span}
use Rattle.gh_ast.specs.declared.Cond.{Cond as CodeCond}
use Rattle.gh_ast.specs.declared.Expr.{Expr}
use Rattle.gh_ast.specs.declared.sign.Sign.{Sign}
use Rattle.gh_ast.specs.declared.sign.Sign.TheVariants as sg
use Rattle.gh_ast.specs.Tokens.{Token, sign, first_place}
use Rattle.gh_ast.specs.Plain.{Cond, compare, negation, conjunction, disjunction, Conds, no_conds, cond_first, cond_of}
use Rattle.gh_ast.specs.Grammar.{NoSign, SpellsExpr, plain, SpellsLit, negated, bracketed, equated, distinguished}
use Rattle.gh_ast.specs.Grammar.{SpellsConj, one_lit, lits, SpellsLits, last_lit, next_lit, SpellsCond, one_conj, conjs}
use Rattle.gh_ast.specs.Grammar.{SpellsConjs, last_conj, next_conj}
use Rattle.gh_ast.proofs.OneTest.{one_literal, one_conjunction, one_literals, one_test, one_conjunctions}
use Rattle.gh_parse.specs.Stops.{Tok, tok, Any, any, Seq, seq, Opt, without, with, EndsHere, goes_on, Stops}
use Rattle.gh_parse.specs.declared.error.ReadError.{ReadError}
use Rattle.gh_parse.specs.Answers.{SpellsComparison, IsBetween, IsRuleRead, TakesKind}
use Rattle.gh_parse.proofs.Rules.{Exact, exact_tok, exact_seq, exact_with, exact_without, exact_by, kept, each}
use Rattle.gh_parse.proofs.Rules.{taken_tok, form, next, after, in_opt, Ends, ends_tok, ends_seq, ends_opt, ends_by}
use Rattle.gh_parse.proofs.Exits.{within, missing}
use Rattle.gh_parse.proofs.Turns.{Goes, before}
use Rattle.gh_parse.proofs.ValueForms.{exact_expr, ends_expr}

-- what stands between two signs
abbrev pub Between : Sign → Sign → (List Token → List Token → Type 0) → List Token → List Token → Type 0
Between opening closing A = Seq (Tok (sign opening)) (Seq A (Tok (sign closing)))

pub between : {X : Type 0} {opening closing : Sign} {P : List Token → X → List Token → Type 0} {start : Span}
    {ts rest : List Token} {x : X} (q : Span)
    → P ts x (sign closing q ∷ rest) → IsBetween opening closing P (sign opening start ∷ ts) x rest
between {start = start} {ts = ts} q a = record { first = start; last = q; inner = ts; front = refl; within = a }

pub make_between : {X : Type 0} {opening closing : Sign} {P : List Token → X → List Token → Type 0} (xs r : List Token)
    → Between opening closing (Any P) xs r → Any (IsBetween opening closing P) xs r
make_between _ _ (seq tok (seq (any a) tok)) = any (between _ a)

pub part_between : {X : Type 0} {opening closing : Sign} {P : List Token → X → List Token → Type 0} (xs r : List Token)
    → Any (IsBetween opening closing P) xs r → Between opening closing (Any P) xs r
part_between _ _ (any b) = seq (taken_tok _ b.front) (seq (any b.within) tok)

pub exact_between : {X : Type 0} {opening closing : Sign} {P : List Token → X → List Token → Type 0}
    → ((ts us : List Token) → Any P ts us → Exact (Any P) ts us)
    → (ts us : List Token) → Any (IsBetween opening closing P) ts us → Exact (Any (IsBetween opening closing P)) ts us
exact_between exact ts us (any b) =
    exact_by make_between (part_between _)
    (exact_seq (exact_tok (taken_tok _ b.front)) (exact_seq (exact _ _ (any b.within)) (exact_tok tok)))

-- the same where the part's own law is known already
pub exact_within : {X : Type 0} {opening closing : Sign} {P : List Token → X → List Token → Type 0} {start q : Span}
    {ts rest : List Token}
    → Exact (Any P) ts (sign closing q ∷ rest)
    → Exact (Any (IsBetween opening closing P)) (sign opening start ∷ ts) rest
exact_within f = exact_by make_between (part_between _) (exact_seq (exact_tok tok) (exact_seq f (exact_tok tok)))

pub ends_between : {X : Type 0} {F : List Token → Type 0} {opening closing : Sign}
    {P : List Token → X → List Token → Type 0}
    → ((start : Span) → goes_on (sign opening start) ≡ false) → ((start : Span) → goes_on (sign closing start) ≡ false)
    → Ends EndsHere (Any P) → Ends F (Any (IsBetween opening closing P))
ends_between f g e =
    ends_by make_between (ends_seq (ends_tok first_place (f first_place))
    (ends_seq e (ends_tok first_place (g first_place))))

-- what is answered where the second sign is taken last
pub closed : {X Y : Type 0} {opening : Sign} {P : List Token → X → List Token → Type 0} {start : Span}
    {ts us vs : List Token} (F : List Token → Type 0) (closing : Sign) (left : List Token) (view : Y → X) (y : Y)
    (answer : Result Span ReadError)
    → ts ≡ sign opening start ∷ us → ((ts us : List Token) → Any P ts us → Exact (Any P) ts us)
    → goes_on (sign closing first_place) ≡ false → P us (view y) vs → TakesKind (sign closing) vs answer left
    → IsRuleRead F (IsBetween opening closing P) ts view (result_and answer (Ok y)) left
closed {P = P} {start = start} {us = us} F closing left view y (Ok q) e exact g a h =
    record { first = start; last = q; inner = us; front = e; within = subst (λ z. P us (view y) z) h a }
closed {start = start} {vs = vs} F closing left view y (Err r) e exact g a h =
    within r (λ s. form make_between part_between (after start e (next exact (any a) s)))
    (missing F (sign closing) vs left r first_place g h)

abbrev pub Guard : Bool → List Token → List Token → Type 0
Guard reads = Any (IsBetween sg.ParenOpen sg.ParenClose (SpellsCond reads))

-- comparisons
pub compared : {reads : Bool} {ts us vs rest : List Token} {l r : Expr} (b : Bool) → SpellsExpr reads ts l us
    → SpellsComparison us b vs → SpellsExpr reads vs r rest
    → SpellsLit reads ts (compare l b r) rest
compared {reads = reads} {ts = ts} {l = l} true a c d = equated (subst (λ z. SpellsExpr reads ts l z) c.1 a) d
compared {reads = reads} {ts = ts} {l = l} false a c d = distinguished (subst (λ z. SpellsExpr reads ts l z) c.1 a) d

pub make_unequal : (xs r : List Token) → Tok (sign sg.Unequal) xs r → Any SpellsComparison xs r
make_unequal _ _ tok = any {x = false} (_, refl)

pub part_unequal : (xs r : List Token) → NoSign sg.Equal xs → Any SpellsComparison xs r → Tok (sign sg.Unequal) xs r
part_unequal xs r n (any {x = true} (p, e)) = absurd (n p r e)
part_unequal xs r n (any {x = false} (p, e)) = taken_tok p e

-- the two signs of a comparison
pub data Comparison : List Token → List Token → Type 0 where
  equal : {p : Span} {rest : List Token} → Comparison (sign sg.Equal p ∷ rest) rest
  unequal : {p : Span} {rest : List Token} → Comparison (sign sg.Unequal p ∷ rest) rest

make_comparison : (xs r : List Token) → Comparison xs r → Any SpellsComparison xs r
make_comparison _ _ equal = any {x = true} (_, refl)
make_comparison _ _ unequal = any {x = false} (_, refl)

part_comparison : (xs r : List Token) → Any SpellsComparison xs r → Comparison xs r
part_comparison xs r (any {x = true} (p, e)) = subst (λ z. Comparison z r) (sym e) equal
part_comparison xs r (any {x = false} (p, e)) = subst (λ z. Comparison z r) (sym e) unequal

only_equal : {xs ts us : List Token} {p : Span} → xs ≡ sign sg.Equal p ∷ ts → Comparison xs us → ts ≡ us
only_equal e equal = cc
only_equal e unequal = cc

only_unequal : {xs ts us : List Token} {p : Span} → xs ≡ sign sg.Unequal p ∷ ts → Comparison xs us → ts ≡ us
only_unequal e equal = cc
only_unequal e unequal = cc

exact_signs : (ts us : List Token) → Comparison ts us → Exact Comparison ts us
exact_signs _ _ (equal {p = p}) =
    record { taken = sign sg.Equal p ∷ []; split = refl; again = λ vs h. equal; only = λ vs c. only_equal refl c }
exact_signs _ _ (unequal {p = p}) =
    record { taken = sign sg.Unequal p ∷ []; split = refl; again = λ vs h. unequal; only = λ vs c. only_unequal refl c }

pub exact_comparison : (ts us : List Token) → Any SpellsComparison ts us → Exact (Any SpellsComparison) ts us
exact_comparison ts us a = exact_by make_comparison (part_comparison ts) (exact_signs ts us (part_comparison ts us a))

pub ends_comparison : Ends EndsHere (Any SpellsComparison)
ends_comparison = ends_by make_unequal (ends_tok first_place refl)

-- literals
abbrev pub Equation : Bool → List Token → List Token → Type 0
Equation reads = Seq (Any (SpellsExpr reads)) (Seq (Any SpellsComparison) (Any (SpellsExpr reads)))

pub make_equation : {reads : Bool} (xs r : List Token) → Equation reads xs r → Any (SpellsLit reads) xs r
make_equation _ _ (seq (any a) (seq (any {x = b} c) (any d))) = any (compared b a c d)

pub part_equation : {reads : Bool} (xs r : List Token) → NoSign sg.Bang xs → NoSign sg.ParenOpen xs
    → Any (SpellsLit reads) xs r → Equation reads xs r
part_equation _ _ n m (any (negated a)) = absurd (n _ _ refl)
part_equation _ _ n m (any (bracketed a)) = absurd (m _ _ refl)
part_equation _ _ n m (any (equated a b)) = seq (any a) (seq (any {x = true} (_, refl)) (any b))
part_equation _ _ n m (any (distinguished a b)) = seq (any a) (seq (any {x = false} (_, refl)) (any b))

pub denied : {reads : Bool} {ts us rest : List Token} {t : Cond} {p : Span} → ts ≡ sign sg.Bang p ∷ us
    → IsBetween sg.ParenOpen sg.ParenClose (SpellsCond reads) us t rest
    → SpellsLit reads ts (negation t) rest
denied {reads = reads} {rest = rest} {t = t} e b = rw (e, b.front) (negated b.within)

pub bare : {reads : Bool} {ts : List Token} (t : Cond) (rest : List Token)
    → IsBetween sg.ParenOpen sg.ParenClose (SpellsCond reads) ts t rest → SpellsLit reads ts t rest
bare t rest b = rw b.front (bracketed b.within)

pub make_negated : {reads : Bool} (xs r : List Token) → Seq (Tok (sign sg.Bang)) (Guard reads) xs r
    → Any (SpellsLit reads) xs r
make_negated _ _ (seq tok (any b)) = any (denied refl b)

pub part_negated : {reads : Bool} (p : Span) (xs r : List Token) → Any (SpellsLit reads) (sign sg.Bang p ∷ xs) r
    → Seq (Tok (sign sg.Bang)) (Guard reads) (sign sg.Bang p ∷ xs) r
part_negated p _ _ (any (negated a)) = seq tok (any (between _ a))
part_negated p _ _ (any (equated (plain a n) b)) = elim a [ ]
part_negated p _ _ (any (distinguished (plain a n) b)) = elim a [ ]

pub make_bracketed : {reads : Bool} (xs r : List Token) → Guard reads xs r → Any (SpellsLit reads) xs r
make_bracketed _ r (any b) = any (bare _ r b)

pub part_bracketed : {reads : Bool} (p : Span) (xs r : List Token) → Any (SpellsLit reads) (sign sg.ParenOpen p ∷ xs) r
    → Guard reads (sign sg.ParenOpen p ∷ xs) r
part_bracketed p _ _ (any (bracketed a)) = any (between _ a)
part_bracketed p _ _ (any (equated (plain a n) b)) = elim a [ ]
part_bracketed p _ _ (any (distinguished (plain a n) b)) = elim a [ ]

-- literals with `&&` between them, and conjunctions with `||` between them
abbrev pub Literals : Bool → List Token → List Token → Type 0
Literals reads = Seq (Any (SpellsLit reads)) (Opt (sign sg.And) (Any (SpellsLits reads)))

abbrev pub Conjunctions : Bool → List Token → List Token → Type 0
Conjunctions reads = Seq (Any (SpellsConj reads)) (Opt (sign sg.Or) (Any (SpellsConjs reads)))

pub make_conj : {reads : Bool} (xs r : List Token) → Literals reads xs r → Any (SpellsConj reads) xs r
make_conj _ _ (seq (any a) (without n)) = any (one_lit a n)
make_conj _ _ (seq (any a) (with (any b))) = any (lits a b)

pub part_conj : {reads : Bool} (xs r : List Token) → Any (SpellsConj reads) xs r → Literals reads xs r
part_conj _ _ (any (one_lit a n)) = seq (any a) (without n)
part_conj _ _ (any (lits a b)) = seq (any a) (with (any b))

pub make_lits : {reads : Bool} (xs r : List Token) → Literals reads xs r → Any (SpellsLits reads) xs r
make_lits _ _ (seq (any a) (without n)) = any (last_lit a n)
make_lits _ _ (seq (any a) (with (any b))) = any (next_lit a b)

pub part_lits : {reads : Bool} (xs r : List Token) → Any (SpellsLits reads) xs r → Literals reads xs r
part_lits _ _ (any (last_lit a n)) = seq (any a) (without n)
part_lits _ _ (any (next_lit a b)) = seq (any a) (with (any b))

pub make_test : {reads : Bool} (xs r : List Token) → Conjunctions reads xs r → Any (SpellsCond reads) xs r
make_test _ _ (seq (any a) (without n)) = any (one_conj a n)
make_test _ _ (seq (any a) (with (any b))) = any (conjs a b)

pub part_test : {reads : Bool} (xs r : List Token) → Any (SpellsCond reads) xs r → Conjunctions reads xs r
part_test _ _ (any (one_conj a n)) = seq (any a) (without n)
part_test _ _ (any (conjs a b)) = seq (any a) (with (any b))

pub make_conjs : {reads : Bool} (xs r : List Token) → Conjunctions reads xs r → Any (SpellsConjs reads) xs r
make_conjs _ _ (seq (any a) (without n)) = any (last_conj a n)
make_conjs _ _ (seq (any a) (with (any b))) = any (next_conj a b)

pub part_conjs : {reads : Bool} (xs r : List Token) → Any (SpellsConjs reads) xs r → Conjunctions reads xs r
part_conjs _ _ (any (last_conj a n)) = seq (any a) (without n)
part_conjs _ _ (any (next_conj a b)) = seq (any a) (with (any b))

exact_equation : {reads : Bool} (ts us : List Token) → Equation reads ts us → Exact (Equation reads) ts us
exact_equation _ _ (seq a (seq c b)) =
    exact_seq (exact_expr _ _ a) (exact_seq (exact_comparison _ _ c) (exact_expr _ _ b))

mutual
  pub exact_lit : {reads : Bool} (ts : List Token) (t : Cond) (us : List Token) → SpellsLit reads ts t us
      → Exact (Any (SpellsLit reads)) ts us
  exact_lit {reads = reads} _ _ _ (negated a) =
      kept _ (one_literal reads _) (negated a) make_negated
      (exact_seq (exact_tok tok) (exact_within (exact_test _ _ _ a)))
  exact_lit {reads = reads} _ _ _ (bracketed a) =
      kept _ (one_literal reads _) (bracketed a) make_bracketed (exact_within (exact_test _ _ _ a))
  exact_lit {reads = reads} _ _ _ (equated a b) =
      kept _ (one_literal reads _) (equated a b) make_equation
      (exact_equation _ _ (seq (any a) (seq (any {x = true} (_, refl)) (any b))))
  exact_lit {reads = reads} _ _ _ (distinguished a b) =
      kept _ (one_literal reads _) (distinguished a b) make_equation
      (exact_equation _ _ (seq (any a) (seq (any {x = false} (_, refl)) (any b))))

  pub exact_conj : {reads : Bool} (ts : List Token) (t : Cond) (us : List Token) → SpellsConj reads ts t us
      → Exact (Any (SpellsConj reads)) ts us
  exact_conj {reads = reads} _ _ _ (one_lit a n) =
      kept _ (one_conjunction reads _) (one_lit a n) make_conj
      (exact_seq (exact_lit _ _ _ a) (exact_without (λ p. refl) n))
  exact_conj {reads = reads} _ _ _ (lits a b) =
      kept _ (one_conjunction reads _) (lits a b) make_conj
      (exact_seq (exact_lit _ _ _ a) (exact_with _ (exact_lits _ _ _ b)))

  exact_lits : {reads : Bool} (ts : List Token) (l : Conds) (us : List Token) → SpellsLits reads ts l us
      → Exact (Any (SpellsLits reads)) ts us
  exact_lits {reads = reads} _ _ _ (last_lit a n) =
      kept _ (one_literals reads _) (last_lit a n) make_lits
      (exact_seq (exact_lit _ _ _ a) (exact_without (λ p. refl) n))
  exact_lits {reads = reads} _ _ _ (next_lit a b) =
      kept _ (one_literals reads _) (next_lit a b) make_lits
      (exact_seq (exact_lit _ _ _ a) (exact_with _ (exact_lits _ _ _ b)))

  pub exact_test : {reads : Bool} (ts : List Token) (t : Cond) (us : List Token) → SpellsCond reads ts t us
      → Exact (Any (SpellsCond reads)) ts us
  exact_test {reads = reads} _ _ _ (one_conj a n) =
      kept _ (one_test reads _) (one_conj a n) make_test (exact_seq (exact_conj _ _ _ a) (exact_without (λ p. refl) n))
  exact_test {reads = reads} _ _ _ (conjs a b) =
      kept _ (one_test reads _) (conjs a b) make_test
      (exact_seq (exact_conj _ _ _ a) (exact_with _ (exact_conjs _ _ _ b)))

  exact_conjs : {reads : Bool} (ts : List Token) (l : Conds) (us : List Token) → SpellsConjs reads ts l us
      → Exact (Any (SpellsConjs reads)) ts us
  exact_conjs {reads = reads} _ _ _ (last_conj a n) =
      kept _ (one_conjunctions reads _) (last_conj a n) make_conjs
      (exact_seq (exact_conj _ _ _ a) (exact_without (λ p. refl) n))
  exact_conjs {reads = reads} _ _ _ (next_conj a b) =
      kept _ (one_conjunctions reads _) (next_conj a b) make_conjs
      (exact_seq (exact_conj _ _ _ a) (exact_with _ (exact_conjs _ _ _ b)))

pub ends_lit : (reads : Bool) → Ends EndsHere (Any (SpellsLit reads))
ends_lit reads = ends_by make_equation (ends_seq (ends_expr reads) (ends_seq ends_comparison (ends_expr reads)))

pub ends_conj : (reads : Bool) → Ends EndsHere (Any (SpellsConj reads))
ends_conj reads = ends_by make_conj (ends_seq (ends_lit reads) (ends_opt (λ p. refl)))

pub ends_test : (reads : Bool) → Ends EndsHere (Any (SpellsCond reads))
ends_test reads = ends_by make_test (ends_seq (ends_conj reads) (ends_opt (λ p. refl)))

pub exact_guard : {reads : Bool} (ts us : List Token) → Guard reads ts us → Exact (Guard reads) ts us
exact_guard ts us a = exact_between (each exact_test) ts us a

pub ends_guard : (reads : Bool) → Ends EndsHere (Guard reads)
ends_guard reads = ends_between (λ p. refl) (λ p. refl) (ends_test reads)

-- literals one by one
pub conjunction_alone : {reads : Bool} {ts us vs : List Token} {t : Cond} → SpellsLit reads ts t us → NoSign sg.And us
    → vs ≡ us → SpellsConj reads ts t vs
conjunction_alone {reads = reads} {ts = ts} {t = t} a n e = subst (λ z. SpellsConj reads ts t z) (sym e) (one_lit a n)

pub conjunction_start : {reads : Bool} {ts us vs : List Token} {p : Span} (xs ys : List CodeCond) (c : CodeCond)
    → SpellsLit reads ts (cond_of c) us → us ≡ sign sg.And p ∷ vs → xs ≡ [] → ys ≡ xs ++ c ∷ []
    → Goes EndsHere (SpellsLits reads) (SpellsConj reads) vs ts
    (λ l. conjunction (before (λ d. cond_first (cond_of d)) ys l))
conjunction_start {reads = reads} {ts = ts} {p = p} xs ys c a e f g =
    record {
      forth = λ l rest h. rw (g, f) (lits (subst (λ z. SpellsLit reads ts (cond_of c) z) e a) h);
      back = λ left s. form make_conj part_conj (next (each exact_lit) (any a) (in_opt p e s));
    }

pub literals_rest : {reads : Bool} {ts us vs : List Token} {t : Cond} {p : Span} → SpellsLit reads ts t us
    → us ≡ sign sg.And p ∷ vs
    → (left : List Token) → Stops EndsHere (Any (SpellsLits reads)) vs left
    → Stops EndsHere (Any (SpellsLits reads)) ts left
literals_rest {p = p} a e left s = form make_lits part_lits (next (each exact_lit) (any a) (in_opt p e s))

pub literals_more : {reads : Bool} {ts us vs : List Token} {t : Cond} {p : Span} → SpellsLit reads ts t us
    → us ≡ sign sg.And p ∷ vs → (l : Conds) (rest : List Token) → SpellsLits reads vs l rest
    → SpellsLits reads ts (cond_first t l) rest
literals_more {reads = reads} {ts = ts} {t = t} a e l rest h = next_lit (subst (λ z. SpellsLit reads ts t z) e a) h

pub literals_last : {reads : Bool} {ts us vs : List Token} {t : Cond} → SpellsLit reads ts t us → NoSign sg.And us
    → vs ≡ us → SpellsLits reads ts (cond_first t no_conds) vs
literals_last {reads = reads} {ts = ts} {t = t} a n e =
    subst (λ z. SpellsLits reads ts (cond_first t no_conds) z) (sym e) (last_lit a n)

-- conjunctions one by one
pub test_alone : {reads : Bool} {ts us vs : List Token} {t : Cond} → SpellsConj reads ts t us → NoSign sg.Or us
    → vs ≡ us → SpellsCond reads ts t vs
test_alone {reads = reads} {ts = ts} {t = t} a n e = subst (λ z. SpellsCond reads ts t z) (sym e) (one_conj a n)

pub test_start : {reads : Bool} {ts us vs : List Token} {p : Span} (xs ys : List CodeCond) (c : CodeCond)
    → SpellsConj reads ts (cond_of c) us → us ≡ sign sg.Or p ∷ vs → xs ≡ [] → ys ≡ xs ++ c ∷ []
    → Goes EndsHere (SpellsConjs reads) (SpellsCond reads) vs ts
    (λ l. disjunction (before (λ d. cond_first (cond_of d)) ys l))
test_start {reads = reads} {ts = ts} {p = p} xs ys c a e f g =
    record {
      forth = λ l rest h. rw (g, f) (conjs (subst (λ z. SpellsConj reads ts (cond_of c) z) e a) h);
      back = λ left s. form make_test part_test (next (each exact_conj) (any a) (in_opt p e s));
    }

pub conjunctions_rest : {reads : Bool} {ts us vs : List Token} {t : Cond} {p : Span} → SpellsConj reads ts t us
    → us ≡ sign sg.Or p ∷ vs
    → (left : List Token) → Stops EndsHere (Any (SpellsConjs reads)) vs left
    → Stops EndsHere (Any (SpellsConjs reads)) ts left
conjunctions_rest {p = p} a e left s = form make_conjs part_conjs (next (each exact_conj) (any a) (in_opt p e s))

pub conjunctions_more : {reads : Bool} {ts us vs : List Token} {t : Cond} {p : Span} → SpellsConj reads ts t us
    → us ≡ sign sg.Or p ∷ vs → (l : Conds) (rest : List Token) → SpellsConjs reads vs l rest
    → SpellsConjs reads ts (cond_first t l) rest
conjunctions_more {reads = reads} {ts = ts} {t = t} a e l rest h =
    next_conj (subst (λ z. SpellsConj reads ts t z) e a) h

pub conjunctions_last : {reads : Bool} {ts us vs : List Token} {t : Cond} → SpellsConj reads ts t us → NoSign sg.Or us
    → vs ≡ us → SpellsConjs reads ts (cond_first t no_conds) vs
conjunctions_last {reads = reads} {ts = ts} {t = t} a n e =
    subst (λ z. SpellsConjs reads ts (cond_first t no_conds) z) (sym e) (last_conj a n)
