-- How questions are made, and where reading them stops.
use Rattle.std.proofs.Common.{◌≡◌, ◌∙◌, List, [], ◌∷◌, ◌++◌, append_assoc, append-nil, ◌≢◌, Result, Ok, Err, IfOk}
use Rattle.std.proofs.Common.{IfErr, refl, sym, ap, subst}
use Rattle.std.specs.Result.{result_and}
use Rattle.gh_base.specs.declared.place.Span.{Span}
use Rattle.gh_ast.specs.declared.Occ.{Occ}
use Rattle.gh_ast.specs.declared.sign.Sign.TheVariants as sg
use Rattle.gh_ast.specs.declared.sign.Keyword.TheVariants as kw
use Rattle.gh_ast.specs.Tokens.{Token, named, key, sign, first_place}
use Rattle.gh_ast.specs.Questions.{Claim, Question}
use Rattle.gh_ast.specs.Grammar.{NoKey, SpellsLocals, last_local, next_local}
use Rattle.gh_ast.specs.QuestionGrammar.{SpellsClaim, SpellsVariables, no_variables, some_variables, SpellsQuestion}
use Rattle.gh_ast.specs.QuestionGrammar.{a_question}
use Rattle.gh_ast.proofs.OneQuestion.{one_claim, one_variables}
use Rattle.gh_parse.specs.Stops.{Tok, tok, Any, any, Seq, seq, EndsHere, IsAny, IsEnd, IsAlike, SameNext, same, none}
use Rattle.gh_parse.specs.Stops.{Stops}
use Rattle.gh_parse.specs.declared.error.ReadError.{ReadError}
use Rattle.gh_parse.specs.declared.error.ReadError.TheVariants.{Unexpected, OutOfMemory}
use Rattle.gh_parse.specs.Answers.{IsRuleRead}
use Rattle.gh_parse.specs.Procedures.{AddsLocals, SpellsToEnd}
use Rattle.gh_parse.specs.Questions.{IsApart, SpellsWhole, Pair, SpellsClaims}
use Rattle.gh_parse.proofs.Rules.{Breaks, after_any, alike_same, begins_not, form, by, through, first_any, next, after}
use Rattle.gh_parse.proofs.Rules.{each, Sentences, plain_first, plain_end}
use Rattle.gh_parse.proofs.ValueForms.{a_name}
use Rattle.gh_parse.proofs.ProcedureForms.{make_adds}
use Rattle.gh_parse.proofs.ClaimForms.{first_apart, apart_end, parts_apart, parts_next, Loose, loose_claim, exact_claim}
use Rattle.gh_parse.proofs.ClaimForms.{a_claim}

-- what begins with a token but these two
apart_key : (p : Span) (rest : List Token) → IsApart (key kw.Ensures p ∷ rest)
apart_key p rest = record { and = λ q us e. cc; or = λ q us e. cc }

-- a claim after which no token is left
abbrev pub Last : List Token → List Token → Type 0
Last = Any (SpellsWhole SpellsClaim)

make_last : {rest : List Token} (xs : List Token) → rest ≡ [] → Any SpellsClaim xs rest → Last xs rest
make_last xs e (any a) = any (record { spelled = a; end = e })

a_last : (rest : List Token) → IsEnd rest → (us : List Token) × EndsHere us × Last us rest
a_last rest e = let a = a_claim rest (apart_end e) in (a.0, a.1, make_last a.0 e a.2)

-- reading a last claim stops where reading a claim does
in_last : {rest : List Token} (xs : List Token) → Last xs rest → Any SpellsClaim xs rest
in_last xs (any a) = any a.spelled

pub stops_last : {ts left : List Token} → Stops IsApart (Any SpellsClaim) ts left → Stops IsEnd Last ts left
stops_last s =
    record {
      before = s.before;
      split = s.split;
      viable = λ rest h. (let a = s.viable rest (apart_end h) in (a.0, a.1, make_last _ h a.2));
      stuck = λ us rest d h. s.stuck us rest d (in_last _ h);
    }

-- tokens are left after a claim
left_over : {ts us xs rest : List Token} (f : Loose (Any SpellsClaim) ts us) → (us ≡ [] → ⊥) → SameNext us xs
    → Last (f.first ∷ (f.taken ++ xs)) rest → Any SpellsClaim (f.first ∷ (f.taken ++ xs)) xs → ⊥
left_over f n (same {us = ys}) (any a) (any b) = let e = (one_claim _ _ _ _ _ b a.spelled).rest in let z = a.end in cc
left_over f n none a b = n refl

pub stops_over : {ts us : List Token} {c : Claim} → SpellsClaim ts c us → (us ≡ [] → ⊥) → Stops IsEnd Last ts us
stops_over {ts = ts} {us = us} {c = c} a n =
    let f = loose_claim ts c us a in
    record {
      before = f.first ∷ f.taken;
      split = f.split;
      viable = λ rest h. (
        rest,
        subst (λ z. IsAlike z (f.first ∷ (f.taken ++ rest))) (sym f.split)
            (alike_same f.first (f.taken ++ us) (f.taken ++ rest)),
        make_last _ h (f.again rest (parts_apart us rest (apart_end h))),
      );
      stuck = λ xs rest d h. left_over f n d h (f.again xs (parts_next us xs d));
    }

-- the right claim after its word, and both claims
abbrev pub Right : List Token → List Token → Type 0
Right = Seq (Tok (key kw.Ensures)) Last

abbrev pub Claims : List Token → List Token → Type 0
Claims = Seq (Any SpellsClaim) Right

a_right : (rest : List Token) → IsEnd rest → (us : List Token) × IsApart us × Right us rest
a_right rest h = let a = a_last rest h in (key kw.Ensures first_place ∷ a.0, apart_key first_place a.0, seq tok a.2)

pub claims_spelled : {ts us vs rest : List Token} {p : Span} {c d : Claim} → SpellsClaim ts c us
    → us ≡ key kw.Ensures p ∷ vs → SpellsWhole SpellsClaim vs d rest
    → SpellsClaims ts (record { left = c; right = d }) rest
claims_spelled {us = us} {vs = vs} {p = p} a e b =
    record { word = p; before_word = us; after_word = vs; left = a; middle = e; right = b }

pub make_claims : (xs r : List Token) → Claims xs r → Any SpellsClaims xs r
make_claims _ _ (seq (any {x = c} a) (seq tok (any {x = d} b))) =
    any {x = record { left = c; right = d }} (claims_spelled a refl b)

claims_at : {c : Claim} {p : Span} {ts us vs rest : List Token} {d : Claim} → SpellsClaim ts c us
    → us ≡ key kw.Ensures p ∷ vs → SpellsWhole SpellsClaim vs d rest → Claims ts rest
claims_at {c = c} {p = p} {ts = ts} {d = d} a e b =
    seq (any {x = c} (subst (λ z. SpellsClaim ts c z) e a)) (seq (tok {p = p}) (any {x = d} b))

pub part_claims : (xs r : List Token) → Any SpellsClaims xs r → Claims xs r
part_claims _ _ (any s) = claims_at s.left s.middle s.right

pub stops_left : {ts left : List Token} → Stops IsApart (Any SpellsClaim) ts left → Stops IsEnd Claims ts left
stops_left s = first_apart a_right s

-- the word between the claims is missing
no_word : {ts us xs rest : List Token} → NoKey kw.Ensures us → SameNext us xs → Any SpellsClaim ts xs → Claims ts rest
    → ⊥
no_word n d (any b) (seq (any a) (seq tok l)) = begins_not n d _ _ (one_claim _ _ _ _ _ b a).rest

pub stops_word : {ts us : List Token} {c : Claim} → SpellsClaim ts c us → NoKey kw.Ensures us → Stops IsEnd Claims ts us
stops_word {ts = ts} {us = us} {c = c} a n =
    let f = loose_claim ts c us a in
    record {
      before = f.first ∷ f.taken;
      split = f.split;
      viable = λ rest h. (
          let b = a_right rest h in (
            b.0,
            subst (λ z. IsAlike z (f.first ∷ (f.taken ++ b.0))) (sym f.split)
                (alike_same f.first (f.taken ++ us) (f.taken ++ b.0)),
            seq (f.again b.0 (parts_apart us b.0 b.1)) b.2,
          )
          );
      stuck = λ xs rest d h. no_word n d (f.again xs (parts_next us xs d)) h;
    }

pub stops_right : {ts us vs left : List Token} {c : Claim} {p : Span} → SpellsClaim ts c us → us ≡ key kw.Ensures p ∷ vs
    → Stops IsEnd Last vs left → Stops IsEnd Claims ts left
stops_right {p = p} a e s = next (each exact_claim) (any a) (after p e s)

-- both claims before the end, and the question before it
a_pair : (rest : List Token) → IsEnd rest → (us : List Token) × Claims us rest
a_pair rest h = let b = a_right rest h in let a = a_claim b.0 b.1 in (a.0, seq a.2 b.2)

abbrev pub AQuestion : List Token → List Token → Type 0
AQuestion = Any (SpellsToEnd SpellsQuestion)

make_question : {ts us rest : List Token} {p : Span} {xs : List Occ} → SpellsVariables ts xs (key kw.Requires p ∷ us)
    → Claims us rest → AQuestion ts rest
make_question {ts = ts} {p = p} v (seq (any {x = c} a) (seq (tok {rest = vs}) (any {x = d} b))) =
    any {x = record { variables = _; span = p; left = c; right = d }}
    (record { spelled = a_question v a (subst (λ z. SpellsClaim vs d z) b.end b.spelled); end = b.end })

question_parts : {ts us rest : List Token} {p : Span} {xs : List Occ} {q : Question}
    → SpellsVariables ts xs (key kw.Requires p ∷ us) → rest ≡ [] → SpellsQuestion ts q → Claims us rest
question_parts {ts = ts} {us = us} {rest = rest} {p = p} {xs = xs} v e
    (a_question {p = r} {q = s} {us = ws} {vs = vs} {xs = ys} {c = c} {d = d} w a b) =
    let o = (one_variables ts xs ys (key kw.Requires p ∷ us) (key kw.Requires r ∷ ws) v w).rest in
    let h : ws ≡ us = cc in
    seq (any (subst (λ z. SpellsClaim z c (key kw.Ensures s ∷ vs)) h a))
    (seq (tok {p = s} {rest = vs})
    (any {x = d} (record { spelled = subst (λ z. SpellsClaim vs d z) (sym e) b; end = e })))

part_question : {ts us rest : List Token} {p : Span} {xs : List Occ} → SpellsVariables ts xs (key kw.Requires p ∷ us)
    → AQuestion ts rest → Claims us rest
part_question v (any w) = question_parts v w.end w.spelled

-- the names of a declaration stand before each rest
pub record Named (ts : List Token) (xs : List Occ) (us : List Token) : Type 0 where
  pub taken : List Token
  pub split : ts ≡ taken ++ us
  pub again : (vs : List Token) → SpellsLocals (taken ++ vs) xs vs

pub named_again : (ts : List Token) (xs : List Occ) (us : List Token) → SpellsLocals ts xs us → Named ts xs us
named_again _ _ _ (last_local {o = o} {p = p} {q = q} {r = r}) =
    record {
      taken = named o ∷ sign sg.Colon p ∷ key kw.Node q ∷ sign sg.Semicolon r ∷ [];
      split = refl;
      again = λ vs. last_local;
    }
named_again _ _ _ (next_local {o = o} {p = p} l) =
    let f = named_again _ _ _ l in
    record {
      taken = named o ∷ sign sg.Comma p ∷ f.taken;
      split = ap (λ z. named o ∷ sign sg.Comma p ∷ z) f.split;
      again = λ vs. next_local (f.again vs);
    }

-- what stands before the word `requires`, before each rest after the word
record Before (p : Span) (ts : List Token) (xs : List Occ) (us : List Token) : Type 0 where
  pub taken : List Token
  pub split : ts ≡ taken ++ key kw.Requires p ∷ us
  pub again : (vs : List Token) → SpellsVariables (taken ++ key kw.Requires p ∷ vs) xs (key kw.Requires p ∷ vs)

before_word : {p : Span} {ts us rest : List Token} {xs : List Occ} → rest ≡ key kw.Requires p ∷ us
    → SpellsVariables ts xs rest → Before p ts xs us
before_word {p = p} {us = us} e (no_variables {p = q} {rest = rest}) =
    record { taken = []; split = e; again = λ vs. no_variables }
before_word {p = p} {us = us} e (some_variables {p = q} {xs = xs} l) =
    let f = named_again _ _ _ l in
    record {
      taken = key kw.Var q ∷ f.taken;
      split = ap (λ z. key kw.Var q ∷ z) (f.split ∙ ap (λ z. f.taken ++ z) e);
      again = λ vs. some_variables (f.again (key kw.Requires p ∷ vs));
    }

-- where reading stops in what comes after the word
pub past_word : {p : Span} {ts us rest left : List Token} {xs : List Occ} → SpellsVariables ts xs rest
    → rest ≡ key kw.Requires p ∷ us → Stops IsEnd Claims us left → Stops IsEnd AQuestion ts left
past_word {p = p} {ts = ts} {us = us} {left = left} {xs = xs} v e s =
    let f = before_word e v in
    let word = key kw.Requires p in
    let joined : (zs : List Token) → (f.taken ++ word ∷ []) ++ zs ≡ f.taken ++ word ∷ zs =
    λ zs. append_assoc f.taken (word ∷ []) zs in
    let at : (zs : List Token) → SpellsVariables ((f.taken ++ word ∷ []) ++ zs) xs (word ∷ zs) =
    λ zs. subst (λ z. SpellsVariables z xs (word ∷ zs)) (sym (joined zs)) (f.again zs) in
    subst (λ z. Stops IsEnd AQuestion z left) (sym (f.split ∙ sym (joined us)))
    (through (f.taken ++ word ∷ []) (λ zs r h. make_question (at zs) h) (λ zs r d h. part_question (at zs) h) s)

pub question_spelled : {ts us vs rest : List Token} {p : Span} {xs : List Occ} {c : Pair} → SpellsVariables ts xs us
    → us ≡ key kw.Requires p ∷ vs → SpellsClaims vs c rest
    → SpellsToEnd SpellsQuestion ts (record { variables = xs; span = p; left = c.left; right = c.right }) rest
question_spelled {ts = ts} {vs = vs} {xs = xs} {c = c} v e s =
    let l = s.right in
    record {
      spelled =
          a_question (subst (λ z. SpellsVariables ts xs z) e v) (subst (λ z. SpellsClaim vs c.left z) s.middle s.left)
          (subst (λ z. SpellsClaim s.after_word c.right z) l.end l.spelled);
      end = l.end;
    }

-- the word `requires` before both claims
abbrev Worded : List Token → List Token → Type 0
Worded = Seq (Tok (key kw.Requires)) Claims

a_worded : Sentences IsEnd Worded
a_worded = record { sentence = λ rest h. (let b = a_pair rest h in (key kw.Requires first_place ∷ b.0, seq tok b.1)) }

make_worded : (xs r : List Token) → Seq (Any SpellsVariables) Worded xs r → AQuestion xs r
make_worded _ _ (seq (any v) (seq tok b)) = make_question v b

whole_worded : {xs r : List Token} {q : Question} → r ≡ [] → SpellsQuestion xs q → Seq (Any SpellsVariables) Worded xs r
whole_worded e (a_question {vs = vs} {d = d} w a b) =
    seq (any w) (seq tok (seq (any a)
    (seq tok (any {x = d} (record { spelled = subst (λ z. SpellsClaim vs d z) (sym e) b; end = e })))))

part_worded : (xs r : List Token) → AQuestion xs r → Seq (Any SpellsVariables) Worded xs r
part_worded xs r (any w) = whole_worded w.end w.spelled

-- reading stops in the variables
pub stops_variables : {ts left : List Token} → Stops IsAny (Any SpellsVariables) ts left → Stops IsEnd AQuestion ts left
stops_variables s = form make_worded part_worded (first_any a_worded s)

-- the word `requires` is missing
no_requires : {ts us xs rest : List Token} {ys : List Occ} → NoKey kw.Requires us → SameNext us xs
    → SpellsVariables ts ys xs → Seq (Any SpellsVariables) Worded ts rest → ⊥
no_requires n d v (seq (any w) (seq tok b)) = begins_not n d _ _ (one_variables _ _ _ _ _ v w).rest

stops_declared : {p : Span} {ts us : List Token} {xs : List Occ} → SpellsLocals ts xs us → NoKey kw.Requires us
    → Stops IsEnd AQuestion (key kw.Var p ∷ ts) us
stops_declared {p = p} {ts = ts} {us = us} {xs = xs} l n =
    let f = named_again ts xs us l in
    let var = key kw.Var p in
    record {
      before = var ∷ f.taken;
      split = ap (λ z. var ∷ z) f.split;
      viable = λ rest h. (
          let b = a_worded.sentence rest h in
          (b.0, alike_same var ts (f.taken ++ b.0), make_worded _ rest (seq (any (some_variables (f.again b.0))) b.1))
          );
      stuck = λ zs rest d h. no_requires n d (some_variables {p = p} (f.again zs)) (part_worded _ rest h);
    }

pub stops_requires : {ts us : List Token} {xs : List Occ} → SpellsVariables ts xs us → NoKey kw.Requires us
    → Stops IsEnd AQuestion ts us
stops_requires no_variables n = absurd (n _ _ refl)
stops_requires (some_variables l) n = stops_declared l n

-- the variables one by one
pub declared_variables : {ts us rest : List Token} {p : Span} {old xs : List Occ} → ts ≡ key kw.Var p ∷ us → old ≡ []
    → AddsLocals old us xs rest → SpellsVariables ts xs rest
declared_variables {us = us} {rest = rest} {old = old} {xs = xs} e f a =
    let same : xs ≡ a.locals = a.added ∙ ap (λ z. z ++ a.locals) f in
    rw e (some_variables (subst (λ z. SpellsLocals us z rest) (sym same) a.spelled))

pub none_declared : {ts rest : List Token} {p : Span} {xs : List Occ} → ts ≡ key kw.Requires p ∷ rest → xs ≡ []
    → SpellsVariables ts xs ts
none_declared e f = rw (e, f) no_variables

make_some : (xs r : List Token) → Seq (Tok (key kw.Var)) (Any SpellsLocals) xs r → Any SpellsVariables xs r
make_some _ _ (seq tok (any l)) = any (some_variables l)

part_some : (xs r : List Token) → NoKey kw.Requires xs → Any SpellsVariables xs r
    → Seq (Tok (key kw.Var)) (Any SpellsLocals) xs r
part_some _ _ n (any no_variables) = absurd (n _ _ refl)
part_some _ _ n (any (some_variables l)) = seq tok (any l)

no_var : {us xs rest : List Token} → NoKey kw.Requires us → NoKey kw.Var us → SameNext us xs
    → Any SpellsVariables xs rest → ⊥
no_var n m d (any no_variables) = begins_not n d _ _ refl
no_var n m d (any (some_variables l)) = begins_not m d _ _ refl

-- neither word is there
pub stops_at_once : {ts : List Token} → NoKey kw.Requires ts → NoKey kw.Var ts → Stops IsAny (Any SpellsVariables) ts ts
stops_at_once {ts = ts} n m =
    let somewhere = first_place in
    let var = key kw.Var somewhere in
    record {
      before = [];
      split = refl;
      viable = λ rest h. (
        var ∷ named a_name ∷ sign sg.Colon somewhere ∷ key kw.Node somewhere ∷ sign sg.Semicolon somewhere ∷ rest,
        (λ k g o. plain_first var _ refl k g),
        any (some_variables last_local),
      );
      stuck = λ us rest d h. no_var n m d h;
    }

-- reading stops in the declaration
locals_more : (ts us : List Token) {xs : List Occ} (rest : List Token) → SpellsLocals (ts ++ us) xs []
    → SpellsLocals (ts ++ (us ++ rest)) xs rest
locals_more ts us {xs = xs} rest l =
    let f = named_again (ts ++ us) xs [] l in
    let taken : f.taken ≡ ts ++ us = sym (append-nil f.taken) ∙ sym f.split in
    subst (λ z. SpellsLocals z xs rest) (ap (λ z. z ++ rest) taken ∙ append_assoc ts us rest) (f.again rest)

any_more : {old : List Occ} (ts us : List Token) (rest : List Token) → Any (AddsLocals old) (ts ++ us) []
    → Any SpellsLocals (ts ++ (us ++ rest)) rest
any_more ts us rest (any a) = any (locals_more ts us rest a.spelled)

breaks_locals : {old : List Occ} {us left : List Token} → Stops EndsHere (Any (AddsLocals old)) us left
    → Breaks IsAny (Any SpellsLocals) us left
breaks_locals {old = old} s =
    record {
      before = s.before;
      split = s.split;
      viable = λ rest h. (let a = s.viable [] (plain_end [] refl) in (a.0 ++ rest, any_more s.before a.0 rest a.2));
      stuck = λ us rest d h. s.stuck us rest d (make_adds _ rest h);
    }

pub stops_declaration : {old : List Occ} {ts us left : List Token} (p : Span) → NoKey kw.Requires ts
    → ts ≡ key kw.Var p ∷ us → Stops EndsHere (Any (AddsLocals old)) us left → Stops IsAny (Any SpellsVariables) ts left
stops_declaration {ts = ts} {us = us} {left = left} p n e s =
    by make_some (λ xs r d h. part_some xs r (begins_not n d) h)
    (subst (λ z. Stops IsAny (Seq (Tok (key kw.Var)) (Any SpellsLocals)) z left) (sym e)
    (after_any p (breaks_locals s)))

-- a claim, and whether a token is left after it
pub whole_claim : {Y : Type 0} (ts us : List Token) (view : Y → Claim) (y : Y) (answer : Result (Unit {0}) ReadError)
    → SpellsClaim ts (view y) us
    → IfOk answer (λ _. us ≡ []) → IfErr answer (λ _. us ≢ [])
    → IsRuleRead IsEnd (SpellsWhole SpellsClaim) ts view (result_and answer (Ok y)) us
whole_claim ts us view y (Ok u) a over more = record { spelled = a; end = over }
whole_claim ts us view y (Err Unexpected) a over more = stops_over a more
whole_claim ts us view y (Err OutOfMemory) a over more = tt
