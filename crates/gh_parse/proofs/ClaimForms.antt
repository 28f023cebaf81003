-- How claims are made, and their rules as those that are put together.
use Rattle.std.proofs.Common.{◌≡◌, ◌∙◌, List, [], ◌∷◌, ◌++◌, append_assoc, refl, sym, ap, subst}
use Rattle.gh_base.specs.declared.place.Span.{Span}
use Rattle.gh_ast.specs.declared.question.Claim as kept_claim
use Rattle.gh_ast.specs.declared.sign.Sign.{Sign}
use Rattle.gh_ast.specs.declared.sign.Sign.TheVariants as sg
use Rattle.gh_ast.specs.Tokens.{Token, sign, first_place}
use Rattle.gh_ast.specs.Plain.{Assertion}
use Rattle.gh_ast.specs.Questions.{Claim, leaf, denial, every, either, Claims, no_claims, claim_first, claim_of}
use Rattle.gh_ast.specs.Questions.{claims_view}
use Rattle.gh_ast.specs.Grammar.{NoSign, SpellsAssertion}
use Rattle.gh_ast.specs.QuestionGrammar.{SpellsPart, asserted, in_brackets, SpellsDenial, affirmed, denied, SpellsBoth}
use Rattle.gh_ast.specs.QuestionGrammar.{one_denial, denials, SpellsDenials, last_denial, next_denial, SpellsClaim}
use Rattle.gh_ast.specs.QuestionGrammar.{one_both, boths, SpellsBoths, last_both, next_both}
use Rattle.gh_ast.specs.Readings.{IsUnique}
use Rattle.gh_ast.proofs.OneQuestion.{one_denied, one_conjunction, one_claim}
use Rattle.gh_parse.specs.Stops.{NoToken, Tok, tok, Any, any, Seq, seq, Opt, without, with, EndsHere, IsAny, IsAlike}
use Rattle.gh_parse.specs.Stops.{SameNext, Stops}
use Rattle.gh_parse.specs.Answers.{IsBetween}
use Rattle.gh_parse.specs.Questions.{IsApart}
use Rattle.gh_parse.proofs.Rules.{Ends, Exact, each, form, next, through, stuck_seq, opt_rest, begins_not}
use Rattle.gh_parse.proofs.Turns.{Goes, before}
use Rattle.gh_parse.proofs.TestForms.{between}
use Rattle.gh_parse.proofs.AssertionForms.{Braced, exact_assertion, ends_braced}

-- no sign but these two goes on with a claim
pub apart_sign : {s : Sign} {p : Span} {rest : List Token} → (s ≡ sg.And → ⊥) → (s ≡ sg.Or → ⊥)
    → IsApart (sign s p ∷ rest)
apart_sign n m = record { and = λ q us e. n cc; or = λ q us e. m cc }

pub apart_end : {ts : List Token} → ts ≡ [] → IsApart ts
apart_end e = record { and = λ q us f. cc; or = λ q us f. cc }

-- in the first of two, where what follows isn't what may follow both
pub first_apart : {F : List Token → Type 0} {A B : List Token → List Token → Type 0} {ts left : List Token}
    → ((rest : List Token) → F rest → (us : List Token) × IsApart us × B us rest) → Stops IsApart A ts left
    → Stops F (Seq A B) ts left
first_apart f s =
    record {
      before = s.before;
      split = s.split;
      viable = λ rest h. (let b = f rest h in let a = s.viable b.0 b.1 in (a.0, a.1, seq a.2 b.2));
      stuck = λ us rest d h. stuck_seq (λ vs a. s.stuck us vs d a) h;
    }

pub in_more : {X : Type 0} {k : X → Token} {F : List Token → Type 0} {A : List Token → List Token → Type 0}
    {ts us left : List Token} (p : X) → us ≡ k p ∷ ts → Stops F A ts left → Stops F (Opt k A) us left
in_more {k = k} {F = F} {A = A} {left = left} p e f =
    subst (λ z. Stops F (Opt k A) z left) (sym e)
    (through (k p ∷ []) (λ xs r h. with h) (λ xs r d h. opt_rest p refl h) f)

-- parts
abbrev pub Enclosed : List Token → List Token → Type 0
Enclosed = Any (IsBetween sg.ParenOpen sg.ParenClose SpellsClaim)

pub braced : {ts rest : List Token} {f : Assertion} → IsBetween sg.BraceOpen sg.BraceClose SpellsAssertion ts f rest
    → SpellsPart ts (leaf f) rest
braced b = rw b.front (asserted b.within)

pub bracketed : {ts : List Token} (c : Claim) (rest : List Token)
    → IsBetween sg.ParenOpen sg.ParenClose SpellsClaim ts c rest → SpellsPart ts c rest
bracketed c rest b = rw b.front (in_brackets b.within)

pub make_braced : (xs r : List Token) → Braced xs r → Any SpellsPart xs r
make_braced _ r (any b) = any (braced b)

pub part_braced : (xs r : List Token) → NoSign sg.ParenOpen xs → Any SpellsPart xs r → Braced xs r
part_braced _ _ n (any (asserted a)) = any (between _ a)
part_braced _ _ n (any (in_brackets a)) = absurd (n _ _ refl)

pub make_bracketed : (xs r : List Token) → Enclosed xs r → Any SpellsPart xs r
make_bracketed _ r (any b) = any (bracketed _ r b)

pub part_bracketed : (p : Span) (xs r : List Token) → Any SpellsPart (sign sg.ParenOpen p ∷ xs) r
    → Enclosed (sign sg.ParenOpen p ∷ xs) r
part_bracketed p _ _ (any (in_brackets a)) = any (between _ a)

-- denials
pub make_affirmed : (xs r : List Token) → Any SpellsPart xs r → Any SpellsDenial xs r
make_affirmed _ _ (any a) = any (affirmed a)

pub part_affirmed : (xs r : List Token) → NoSign sg.Bang xs → Any SpellsDenial xs r → Any SpellsPart xs r
part_affirmed _ _ n (any (affirmed a)) = any a
part_affirmed _ _ n (any (denied a)) = absurd (n _ _ refl)

pub make_denied : (xs r : List Token) → Seq (Tok (sign sg.Bang)) (Any SpellsPart) xs r → Any SpellsDenial xs r
make_denied _ _ (seq tok (any a)) = any (denied a)

pub part_denied : (p : Span) (xs r : List Token) → Any SpellsDenial (sign sg.Bang p ∷ xs) r
    → Seq (Tok (sign sg.Bang)) (Any SpellsPart) (sign sg.Bang p ∷ xs) r
part_denied p _ _ (any (denied a)) = seq tok (any a)
part_denied p _ _ (any (affirmed a)) = elim a [ ]

pub not_so : {ts us rest : List Token} {c : Claim} {p : Span} → ts ≡ sign sg.Bang p ∷ us → SpellsPart us c rest
    → SpellsDenial ts (denial c) rest
not_so e a = rw e (denied a)

pub as_it_stands : {ts us : List Token} (c : Claim) (rest : List Token) → us ≡ ts → SpellsPart us c rest
    → SpellsDenial ts c rest
as_it_stands c rest e a = affirmed (subst (λ z. SpellsPart z c rest) e a)

-- denials with `&&` between them, and conjunctions with `||` between them
abbrev pub Denials : List Token → List Token → Type 0
Denials = Seq (Any SpellsDenial) (Opt (sign sg.And) (Any SpellsDenials))

abbrev pub Boths : List Token → List Token → Type 0
Boths = Seq (Any SpellsBoth) (Opt (sign sg.Or) (Any SpellsBoths))

pub make_both : (xs r : List Token) → Denials xs r → Any SpellsBoth xs r
make_both _ _ (seq (any a) (without n)) = any (one_denial a n)
make_both _ _ (seq (any a) (with (any b))) = any (denials a b)

pub part_both : (xs r : List Token) → Any SpellsBoth xs r → Denials xs r
part_both _ _ (any (one_denial a n)) = seq (any a) (without n)
part_both _ _ (any (denials a b)) = seq (any a) (with (any b))

pub make_denials : (xs r : List Token) → Denials xs r → Any SpellsDenials xs r
make_denials _ _ (seq (any a) (without n)) = any (last_denial a n)
make_denials _ _ (seq (any a) (with (any b))) = any (next_denial a b)

pub part_denials : (xs r : List Token) → Any SpellsDenials xs r → Denials xs r
part_denials _ _ (any (last_denial a n)) = seq (any a) (without n)
part_denials _ _ (any (next_denial a b)) = seq (any a) (with (any b))

pub make_claim : (xs r : List Token) → Boths xs r → Any SpellsClaim xs r
make_claim _ _ (seq (any a) (without n)) = any (one_both a n)
make_claim _ _ (seq (any a) (with (any b))) = any (boths a b)

pub part_claim : (xs r : List Token) → Any SpellsClaim xs r → Boths xs r
part_claim _ _ (any (one_both a n)) = seq (any a) (without n)
part_claim _ _ (any (boths a b)) = seq (any a) (with (any b))

pub make_boths : (xs r : List Token) → Boths xs r → Any SpellsBoths xs r
make_boths _ _ (seq (any a) (without n)) = any (last_both a n)
make_boths _ _ (seq (any a) (with (any b))) = any (next_both a b)

pub part_boths : (xs r : List Token) → Any SpellsBoths xs r → Boths xs r
part_boths _ _ (any (last_both a n)) = seq (any a) (without n)
part_boths _ _ (any (next_both a b)) = seq (any a) (with (any b))

-- what follows is no sign by which a claim goes on, as before
pub record Parts (us vs : List Token) : Type 0 where
  pub and : NoSign sg.And us → NoSign sg.And vs
  pub or : NoSign sg.Or us → NoSign sg.Or vs

pub parts_apart : (us vs : List Token) → IsApart vs → Parts us vs
parts_apart us vs a = record { and = λ n. a.and; or = λ n. a.or }

pub parts_alike : (us vs : List Token) → IsAlike us vs → Parts us vs
parts_alike us vs h = record { and = λ n p. h (sign sg.And p) refl (n p); or = λ n p. h (sign sg.Or p) refl (n p) }

parts_same : (t : Token) (us vs : List Token) → Parts (t ∷ us) (t ∷ vs)
parts_same t us vs = record {
  and = λ n p rest e. (let f : t ∷ us ≡ sign sg.And p ∷ us = cc in n p us f);
  or = λ n p rest e. (let f : t ∷ us ≡ sign sg.Or p ∷ us = cc in n p us f);
}

pub parts_next : (us vs : List Token) → SameNext us vs → Parts us vs
parts_next us vs d = record { and = λ n. begins_not n d; or = λ n. begins_not n d }

-- what was read is read before each rest that parts as this one
pub record Loose (P : List Token → List Token → Type 0) (ts us : List Token) : Type 0 where
  pub first : Token
  pub taken : List Token
  pub split : ts ≡ first ∷ (taken ++ us)
  pub again : (vs : List Token) → Parts us vs → P (first ∷ (taken ++ vs)) vs

loose_by : {P Q : List Token → List Token → Type 0} {ts us : List Token} → ((xs r : List Token) → P xs r → Q xs r)
    → Loose P ts us → Loose Q ts us
loose_by make f = record { first = f.first; taken = f.taken; split = f.split; again = λ vs h. make _ vs (f.again vs h) }

braced_again : (p q : Span) (ts vs : List Token) → Any SpellsAssertion ts (sign sg.BraceClose q ∷ vs)
    → Any SpellsPart (sign sg.BraceOpen p ∷ ts) vs
braced_again p q ts vs (any a) = any (asserted a)

loose_braced : {p q : Span} {ts rest : List Token} → Exact (Any SpellsAssertion) ts (sign sg.BraceClose q ∷ rest)
    → Loose (Any SpellsPart) (sign sg.BraceOpen p ∷ ts) rest
loose_braced {p = p} {q = q} {ts = ts} {rest = rest} f =
    record {
      first = sign sg.BraceOpen p;
      taken = f.taken ++ sign sg.BraceClose q ∷ [];
      split = ap (λ z. sign sg.BraceOpen p ∷ z) (f.split ∙ sym (append_assoc f.taken (sign sg.BraceClose q ∷ []) rest));
      again = λ vs h.
          subst (λ z. Any SpellsPart (sign sg.BraceOpen p ∷ z) vs)
          (sym (append_assoc f.taken (sign sg.BraceClose q ∷ []) vs))
          (braced_again p q (f.taken ++ sign sg.BraceClose q ∷ vs) vs
          (f.again (sign sg.BraceClose q ∷ vs)
          (λ k g n more e. (let i : sign sg.BraceClose q ∷ rest ≡ k ∷ rest = cc in n rest i))));
    }

bracketed_again : (p q : Span) (ts vs : List Token) → Any SpellsClaim ts (sign sg.ParenClose q ∷ vs)
    → Any SpellsPart (sign sg.ParenOpen p ∷ ts) vs
bracketed_again p q ts vs (any a) = any (in_brackets a)

loose_bracketed : {p q : Span} {ts rest : List Token} → Loose (Any SpellsClaim) ts (sign sg.ParenClose q ∷ rest)
    → Loose (Any SpellsPart) (sign sg.ParenOpen p ∷ ts) rest
loose_bracketed {p = p} {q = q} {ts = ts} {rest = rest} f =
    let close = sign sg.ParenClose q in
    record {
      first = sign sg.ParenOpen p;
      taken = f.first ∷ (f.taken ++ close ∷ []);
      split =
          ap (λ z. sign sg.ParenOpen p ∷ z)
          (f.split ∙ ap (λ z. f.first ∷ z) (sym (append_assoc f.taken (close ∷ []) rest)));
      again = λ vs h.
          subst (λ z. Any SpellsPart (sign sg.ParenOpen p ∷ f.first ∷ z) vs)
          (sym (append_assoc f.taken (close ∷ []) vs))
          (bracketed_again p q (f.first ∷ (f.taken ++ close ∷ vs)) vs
          (f.again (close ∷ vs) (parts_same close rest vs)));
    }

denied_again : (p : Span) (ts vs : List Token) → Any SpellsPart ts vs → Any SpellsDenial (sign sg.Bang p ∷ ts) vs
denied_again p ts vs (any a) = any (denied a)

loose_denied : {p : Span} {ts rest : List Token} → Loose (Any SpellsPart) ts rest
    → Loose (Any SpellsDenial) (sign sg.Bang p ∷ ts) rest
loose_denied {p = p} f =
    record {
      first = sign sg.Bang p;
      taken = f.first ∷ f.taken;
      split = ap (λ z. sign sg.Bang p ∷ z) f.split;
      again = λ vs h. denied_again p (f.first ∷ (f.taken ++ vs)) vs (f.again vs h);
    }

loose_alone : {X : Type 0} {k : X → Token} {A B : List Token → List Token → Type 0} {ts us : List Token} → NoToken k us
    → ((vs : List Token) → Parts us vs → NoToken k us → NoToken k vs)
    → Loose A ts us → Loose (Seq A (Opt k B)) ts us
loose_alone n keep f = record {
  first = f.first;
  taken = f.taken;
  split = f.split;
  again = λ vs h. seq (f.again vs h) (without (keep vs h n));
}

loose_more : {k : Span → Token} {A B : List Token → List Token → Type 0} {ts us rest : List Token} (p : Span)
    → Loose A ts (k p ∷ us) → Loose B us rest → Loose (Seq A (Opt k B)) ts rest
loose_more {k = k} {A = A} {B = B} {us = us} {rest = rest} p f g =
    let more = g.first ∷ g.taken in
    record {
      first = f.first;
      taken = f.taken ++ k p ∷ more;
      split =
          f.split ∙ ap (λ z. f.first ∷ (f.taken ++ k p ∷ z)) g.split
          ∙ ap (λ z. f.first ∷ z) (sym (append_assoc f.taken (k p ∷ more) rest));
      again = λ vs h.
          subst (λ z. Seq A (Opt k B) (f.first ∷ z) vs) (sym (append_assoc f.taken (k p ∷ more) vs))
          (seq (f.again (k p ∷ more ++ vs) (parts_same (k p) us (more ++ vs))) (with (g.again vs h)));
    }

mutual
  loose_part : (ts : List Token) (c : Claim) (us : List Token) → SpellsPart ts c us → Loose (Any SpellsPart) ts us
  loose_part _ _ _ (asserted a) = loose_braced (exact_assertion _ _ _ a)
  loose_part _ _ _ (in_brackets a) = loose_bracketed (loose_claim _ _ _ a)

  loose_denial : (ts : List Token) (c : Claim) (us : List Token) → SpellsDenial ts c us → Loose (Any SpellsDenial) ts us
  loose_denial _ _ _ (affirmed a) = loose_by make_affirmed (loose_part _ _ _ a)
  loose_denial _ _ _ (denied a) = loose_denied (loose_part _ _ _ a)

  loose_both : (ts : List Token) (c : Claim) (us : List Token) → SpellsBoth ts c us → Loose (Any SpellsBoth) ts us
  loose_both _ _ _ (one_denial a n) = loose_by make_both (loose_alone n (λ vs h. h.and) (loose_denial _ _ _ a))
  loose_both _ _ _ (denials {p = p} a b) =
      loose_by make_both (loose_more p (loose_denial _ _ _ a) (loose_denials _ _ _ b))

  loose_denials : (ts : List Token) (cs : Claims) (us : List Token) → SpellsDenials ts cs us
      → Loose (Any SpellsDenials) ts us
  loose_denials _ _ _ (last_denial a n) = loose_by make_denials (loose_alone n (λ vs h. h.and) (loose_denial _ _ _ a))
  loose_denials _ _ _ (next_denial {p = p} a b) =
      loose_by make_denials (loose_more p (loose_denial _ _ _ a) (loose_denials _ _ _ b))

  pub loose_claim : (ts : List Token) (c : Claim) (us : List Token) → SpellsClaim ts c us
      → Loose (Any SpellsClaim) ts us
  loose_claim _ _ _ (one_both a n) = loose_by make_claim (loose_alone n (λ vs h. h.or) (loose_both _ _ _ a))
  loose_claim _ _ _ (boths {p = p} a b) = loose_by make_claim (loose_more p (loose_both _ _ _ a) (loose_boths _ _ _ b))

  loose_boths : (ts : List Token) (cs : Claims) (us : List Token) → SpellsBoths ts cs us → Loose (Any SpellsBoths) ts us
  loose_boths _ _ _ (last_both a n) = loose_by make_boths (loose_alone n (λ vs h. h.or) (loose_both _ _ _ a))
  loose_boths _ _ _ (next_both {p = p} a b) =
      loose_by make_boths (loose_more p (loose_both _ _ _ a) (loose_boths _ _ _ b))

-- nothing else is read
only_one : {X : Type 0} {P : List Token → X → List Token → Type 0} {ts us vs : List Token} (x : X) → IsUnique (P ts)
    → P ts x us → Any P ts vs → us ≡ vs
only_one x one a (any b) = (one _ _ _ _ a b).rest

exact_loose : {X : Type 0} {P : List Token → X → List Token → Type 0} {ts us : List Token} (x : X) → IsUnique (P ts)
    → P ts x us → Loose (Any P) ts us → Exact (Any P) ts us
exact_loose {us = us} x one a f =
    record {
      taken = f.first ∷ f.taken;
      split = f.split;
      again = λ vs h. f.again vs (parts_alike us vs h);
      only = λ vs b. only_one x one a b;
    }

pub exact_denial : (ts : List Token) (c : Claim) (us : List Token) → SpellsDenial ts c us
    → Exact (Any SpellsDenial) ts us
exact_denial ts c us a = exact_loose c (one_denied ts) a (loose_denial ts c us a)

pub exact_both : (ts : List Token) (c : Claim) (us : List Token) → SpellsBoth ts c us → Exact (Any SpellsBoth) ts us
exact_both ts c us a = exact_loose c (one_conjunction ts) a (loose_both ts c us a)

pub exact_claim : (ts : List Token) (c : Claim) (us : List Token) → SpellsClaim ts c us → Exact (Any SpellsClaim) ts us
exact_claim ts c us a = exact_loose c (one_claim ts) a (loose_claim ts c us a)

-- a claim before each rest that may follow, and it begins with nothing that goes on
pub a_claim : (rest : List Token) → IsApart rest → (us : List Token) × EndsHere us × Any SpellsClaim us rest
a_claim rest h =
    let b = (ends_braced IsAny).sentence rest tt in (
      b.0,
      b.1,
      make_claim _ rest
          (seq (make_both _ rest (seq (make_affirmed _ rest (make_braced _ rest b.2)) (without h.and))) (without h.or)),
    )

pub no_and : (rest : List Token) → IsApart rest
    → (us : List Token) × IsApart us × Opt (sign sg.And) (Any SpellsDenials) us rest
no_and rest h = (rest, h, without h.and)

pub no_or : (rest : List Token) → IsApart rest
    → (us : List Token) × IsApart us × Opt (sign sg.Or) (Any SpellsBoths) us rest
no_or rest h = (rest, h, without h.or)

-- the bracket that closes a claim
pub bracket_closes : (rest : List Token) → IsApart rest
    → (us : List Token) × IsApart us × Tok (sign sg.ParenClose) us rest
bracket_closes rest h = (sign sg.ParenClose first_place ∷ rest, apart_sign (λ e. cc) (λ e. cc), tok)

-- a claim and that bracket
pub claim_closes : {F : List Token → Type 0} → Ends F (Seq (Any SpellsClaim) (Tok (sign sg.ParenClose)))
claim_closes = record {
  sentence = λ rest h.
      (let a = a_claim (sign sg.ParenClose first_place ∷ rest) (apart_sign (λ e. cc) (λ e. cc)) in
      (a.0, a.1, seq a.2 tok));
}

-- tokens that stayed
pub at_once : {s : Sign} {ts us : List Token} → us ≡ ts → NoSign s ts → NoSign s us
at_once {s = s} e n = subst (λ z. NoSign s z) (sym e) n

-- denials one by one
pub both_alone : {ts us vs : List Token} {c : Claim} → SpellsDenial ts c us → NoSign sg.And us → vs ≡ us
    → SpellsBoth ts c vs
both_alone {ts = ts} {c = c} a n e = subst (λ z. SpellsBoth ts c z) (sym e) (one_denial a n)

pub both_start : {ts us vs : List Token} {p : Span} (xs ys : List kept_claim.Claim) (c : kept_claim.Claim)
    → SpellsDenial ts (claim_of c) us → us ≡ sign sg.And p ∷ vs → xs ≡ [] → ys ≡ xs ++ c ∷ []
    → Goes IsApart SpellsDenials SpellsBoth vs ts (λ l. every (before (λ d. claim_first (claim_of d)) ys l))
both_start {ts = ts} {p = p} xs ys c a e f g =
    record {
      forth = λ l rest h. rw (g, f) (denials (subst (λ z. SpellsDenial ts (claim_of c) z) e a) h);
      back = λ left s. form make_both part_both (next (each exact_denial) (any a) (in_more p e s));
    }

pub denials_rest : {ts us vs : List Token} {c : Claim} {p : Span} → SpellsDenial ts c us → us ≡ sign sg.And p ∷ vs
    → (left : List Token) → Stops IsApart (Any SpellsDenials) vs left → Stops IsApart (Any SpellsDenials) ts left
denials_rest {p = p} a e left s = form make_denials part_denials (next (each exact_denial) (any a) (in_more p e s))

pub denials_more : {ts us vs : List Token} {c : Claim} {p : Span} → SpellsDenial ts c us → us ≡ sign sg.And p ∷ vs
    → (l : Claims) (rest : List Token) → SpellsDenials vs l rest
    → SpellsDenials ts (claim_first c l) rest
denials_more {ts = ts} {c = c} a e l rest h = next_denial (subst (λ z. SpellsDenial ts c z) e a) h

pub denials_last : {ts us vs : List Token} {c : Claim} → SpellsDenial ts c us → NoSign sg.And us → vs ≡ us
    → SpellsDenials ts (claim_first c no_claims) vs
denials_last {ts = ts} {c = c} a n e =
    subst (λ z. SpellsDenials ts (claim_first c no_claims) z) (sym e) (last_denial a n)

-- conjunctions one by one
pub claim_alone : {ts us vs : List Token} {c : Claim} → SpellsBoth ts c us → NoSign sg.Or us → vs ≡ us
    → SpellsClaim ts c vs
claim_alone {ts = ts} {c = c} a n e = subst (λ z. SpellsClaim ts c z) (sym e) (one_both a n)

pub claim_start : {ts us vs : List Token} {p : Span} (xs ys : List kept_claim.Claim) (c : kept_claim.Claim)
    → SpellsBoth ts (claim_of c) us → us ≡ sign sg.Or p ∷ vs → xs ≡ [] → ys ≡ xs ++ c ∷ []
    → Goes IsApart SpellsBoths SpellsClaim vs ts (λ l. either (before (λ d. claim_first (claim_of d)) ys l))
claim_start {ts = ts} {p = p} xs ys c a e f g =
    record {
      forth = λ l rest h. rw (g, f) (boths (subst (λ z. SpellsBoth ts (claim_of c) z) e a) h);
      back = λ left s. form make_claim part_claim (next (each exact_both) (any a) (in_more p e s));
    }

pub boths_rest : {ts us vs : List Token} {c : Claim} {p : Span} → SpellsBoth ts c us → us ≡ sign sg.Or p ∷ vs
    → (left : List Token) → Stops IsApart (Any SpellsBoths) vs left → Stops IsApart (Any SpellsBoths) ts left
boths_rest {p = p} a e left s = form make_boths part_boths (next (each exact_both) (any a) (in_more p e s))

pub boths_more : {ts us vs : List Token} {c : Claim} {p : Span} → SpellsBoth ts c us → us ≡ sign sg.Or p ∷ vs
    → (l : Claims) (rest : List Token) → SpellsBoths vs l rest
    → SpellsBoths ts (claim_first c l) rest
boths_more {ts = ts} {c = c} a e l rest h = next_both (subst (λ z. SpellsBoth ts c z) e a) h

pub boths_last : {ts us vs : List Token} {c : Claim} → SpellsBoth ts c us → NoSign sg.Or us → vs ≡ us
    → SpellsBoths ts (claim_first c no_claims) vs
boths_last {ts = ts} {c = c} a n e = subst (λ z. SpellsBoths ts (claim_first c no_claims) z) (sym e) (last_both a n)

-- the members of a list, as a chain
pub claims_before : (xs : List kept_claim.Claim) → before (λ c. claim_first (claim_of c)) xs no_claims ≡ claims_view xs
claims_before [] = refl
claims_before (x ∷ xs) = ap (claim_first (claim_of x)) (claims_before xs)
