-- How statements and blocks are made, and their rules as those that are put together.
use Rattle.std.proofs.Common.{◌≡◌, ◌∙◌, ◌+◌, ◌*◌, ◌<◌, List, [], ◌∷◌, ◌++◌, true, map, length, refl, sym, subst, ap}
use Rattle.std.proofs.Common.{arith}
use Rattle.std.proofs.lemmas.List.{map-append}
use Rattle.gh_base.specs.declared.place.Span.{Span}
use Rattle.gh_ast.specs.declared.Occ.{Occ}
use Rattle.gh_ast.specs.declared.Expr.{Expr}
use Rattle.gh_ast.specs.declared.Stmt.{Stmt}
use Rattle.gh_ast.specs.declared.sign.Sign.TheVariants as sg
use Rattle.gh_ast.specs.declared.sign.Keyword.TheVariants as kw
use Rattle.gh_ast.specs.Plain.{Cond, Assertion, Statement, Statements, no_statements, statement_first, statements_of}
use Rattle.gh_ast.specs.Plain.{statement_of, free, if, while, return, Block}
use Rattle.gh_ast.specs.Tokens.{Token, named, key, sign, first_place}
use Rattle.gh_ast.specs.Grammar.{NoSign, NoKey, SpellsCond, SpellsExpr, SpellsClause, SpellsValues, SpellsTargets}
use Rattle.gh_ast.specs.Grammar.{last_target, next_target, SpellsStatement, a_set, a_new, a_write, a_free, bare_call}
use Rattle.gh_ast.specs.Grammar.{a_call, an_if, an_if_else, a_while, a_return, SpellsBlock, a_block, SpellsStatements}
use Rattle.gh_ast.specs.Grammar.{no_more, one_more}
use Rattle.gh_ast.specs.Readings.{IsUnique}
use Rattle.gh_ast.proofs.OneStatement.{one_statement, one_block, one_statements}
use Rattle.gh_ast.proofs.Shorter.{shorter_test, shorter_clause}
use Rattle.gh_ast.proofs.ShorterStatement.{shorter_block, shorter_statement}
use Rattle.gh_parse.specs.Stops.{Tok, tok, Any, any, Seq, seq, Opt, without, with, Then, and_then, EndsHere, Stops}
use Rattle.gh_parse.specs.Answers.{IsBetween}
use Rattle.gh_parse.specs.Statements.{SpellsNamed, SpellsWholeBlock, SpellsOtherwise, no_else, an_else, SpellsRepeated}
use Rattle.gh_parse.specs.Statements.{SpellsRun}
use Rattle.gh_parse.proofs.Rules.{Exact, exact_tok, exact_seq, exact_with, exact_without, kept, kept_rest, each}
use Rattle.gh_parse.proofs.Rules.{taken_tok, by, form, begins_not, next, first_then, Ends, ends_tok, ends_seq, ends_by}
use Rattle.gh_parse.proofs.Turns.{before, before-append}
use Rattle.gh_parse.proofs.Runs.{before-none, Runs}
use Rattle.gh_parse.proofs.ValueForms.{exact_expr, exact_values}
use Rattle.gh_parse.proofs.TestForms.{Guard, between, exact_within, exact_test}
use Rattle.gh_parse.proofs.AssertionForms.{exact_clause}
use Rattle.gh_parse.proofs.CallForms.{spelled_at, Arguments, make_arguments, exact_arguments, exact_targets, Write}
use Rattle.gh_parse.proofs.CallForms.{bare_spelled, call_spelled, ends_arguments}

abbrev pub AStatement : List Token → List Token → Type 0
AStatement = Any SpellsStatement

abbrev pub ABlock : List Token → List Token → Type 0
ABlock = Any SpellsWholeBlock

abbrev pub ARun : List Token → List Token → Type 0
ARun = Any SpellsRun

a_part : {a : Statements} {c : Span} {ts rest : List Token} → SpellsBlock ts a c rest → ABlock ts rest
a_part {a = a} {c = c} b = any {x = record { statements = a; close = c }} b

pub a_run : {a : Statements} {c : Span} {ts rest : List Token} → SpellsStatements ts a c rest → ARun ts rest
a_run {a = a} {c = c} b = any {x = record { statements = a; close = c }} b

-- `free NAME ;` and `return values ;`
abbrev pub Free : List Token → List Token → Type 0
Free = Seq (Tok (key kw.Free)) (Seq (Tok named) (Tok (sign sg.Semicolon)))

pub make_free : (xs r : List Token) → Free xs r → AStatement xs r
make_free _ _ (seq tok (seq tok tok)) = any a_free

pub part_free : (p : Span) (xs r : List Token) → AStatement (key kw.Free p ∷ xs) r → Free (key kw.Free p ∷ xs) r
part_free p _ _ (any a_free) = seq tok (seq tok tok)
part_free p _ _ (any (a_call t v)) = elim t [ ]

pub free_spelled : {o : Occ} {ts us vs rest : List Token} {p q : Span} → ts ≡ key kw.Free p ∷ us → us ≡ named o ∷ vs
    → vs ≡ sign sg.Semicolon q ∷ rest → SpellsStatement ts (free o) rest
free_spelled {o = o} {rest = rest} {p = p} {q = q} a b c =
    spelled_at {us = key kw.Free p ∷ named o ∷ sign sg.Semicolon q ∷ rest} (cc) a_free

abbrev pub Return : List Token → List Token → Type 0
Return = Seq (Tok (key kw.Return)) (Any (SpellsValues sg.Semicolon))

pub make_return : (xs r : List Token) → Return xs r → AStatement xs r
make_return _ _ (seq tok (any v)) = any (a_return v)

pub part_return : (p : Span) (xs r : List Token) → AStatement (key kw.Return p ∷ xs) r → Return (key kw.Return p ∷ xs) r
part_return p _ _ (any (a_return v)) = seq tok (any v)
part_return p _ _ (any (a_call t v)) = elim t [ ]

pub return_spelled : {ts us rest : List Token} {p : Span} {es : List Expr} → ts ≡ key kw.Return p ∷ us
    → SpellsValues sg.Semicolon us es rest → SpellsStatement ts (return p es) rest
return_spelled {us = us} {p = p} a s = spelled_at {us = key kw.Return p ∷ us} a (a_return s)

-- a test in brackets
abbrev pub SpellsGuard : List Token → Cond → List Token → Type 0
SpellsGuard = IsBetween sg.ParenOpen sg.ParenClose (SpellsCond true)

pub guard_less : {ts us : List Token} {t : Cond} → SpellsGuard ts t us → length us < length ts
guard_less {ts = ts} {us = us} {t = t} g =
    let h = shorter_test g.within in
    let e : length ts ≡ length (sign sg.ParenOpen g.first ∷ g.inner) = ap length g.front in omega arith

-- `if`
pub if_spelled : {ts us vs rest : List Token} {p : Span} {t : Cond} {b : Block} → ts ≡ key kw.If p ∷ us
    → SpellsGuard us t vs → SpellsWholeBlock vs b rest → NoKey kw.Else rest
    → SpellsStatement ts (if t b.statements b.close no_statements b.close) rest
if_spelled {p = p} a g s n = let e = g.front in
    spelled_at {us = key kw.If p ∷ sign sg.ParenOpen g.first ∷ g.inner} (cc) (an_if g.within s n)

pub if_else_spelled : {ts us vs ws xs rest : List Token} {p q : Span} {t : Cond} {b d : Block} → ts ≡ key kw.If p ∷ us
    → SpellsGuard us t vs → SpellsWholeBlock vs b ws → ws ≡ key kw.Else q ∷ xs → SpellsWholeBlock xs d rest
    → SpellsStatement ts (if t b.statements b.close d.statements d.close) rest
if_else_spelled {vs = vs} {p = p} {b = b} a g s c i =
    let e = g.front in
    spelled_at {us = key kw.If p ∷ sign sg.ParenOpen g.first ∷ g.inner} (cc)
    (an_if_else g.within (subst (λ z. SpellsBlock vs b.statements b.close z) c s) i)

abbrev pub Choice : List Token → List Token → Type 0
Choice = Seq (Tok (key kw.If)) (Seq (Guard true) (Seq ABlock (Opt (key kw.Else) ABlock)))

pub make_if : (xs r : List Token) → Choice xs r → AStatement xs r
make_if _ _ (seq tok (seq (any g) (seq (any {x = b} a) (without n)))) = any (if_spelled {b = b} refl g a n)
make_if _ _ (seq tok (seq (any g) (seq (any {x = b} a) (with (any {x = d} c))))) =
    any (if_else_spelled {b = b} {d = d} refl g a refl c)

pub part_if : (p : Span) (xs r : List Token) → AStatement (key kw.If p ∷ xs) r → Choice (key kw.If p ∷ xs) r
part_if p _ _ (any (an_if t b n)) = seq tok (seq (any (between _ t)) (seq (a_part b) (without n)))
part_if p _ _ (any (an_if_else t b d)) = seq tok (seq (any (between _ t)) (seq (a_part b) (with (a_part d))))
part_if p _ _ (any (a_call t v)) = elim t [ ]

-- the block after `else`
pub make_otherwise : {c : Span} (xs r : List Token) → Opt (key kw.Else) ABlock xs r → Any (SpellsOtherwise c) xs r
make_otherwise _ _ (without n) = any (no_else n)
make_otherwise _ _ (with (any {x = b} a)) = any (an_else {b = b} a)

pub part_otherwise : {c : Span} (xs r : List Token) → Any (SpellsOtherwise c) xs r → Opt (key kw.Else) ABlock xs r
part_otherwise _ _ (any (no_else n)) = without n
part_otherwise _ _ (any (an_else {b = b} a)) = with (any {x = b} a)

pub else_spelled : {ts us : List Token} {p c : Span} → ts ≡ key kw.Else p ∷ us → (x : Block) (rest : List Token)
    → SpellsWholeBlock us x rest → SpellsOtherwise c ts x rest
else_spelled {c = c} e x rest s = subst (λ z. SpellsOtherwise c z x rest) (sym e) (an_else {b = x} s)

pub either_spelled : {ts us vs ws rest : List Token} {p c : Span} {t : Cond} {b d : Block} → ts ≡ key kw.If p ∷ us
    → SpellsGuard us t vs → SpellsWholeBlock vs b ws → SpellsOtherwise c ws d rest → b.close ≡ c
    → SpellsStatement ts (if t b.statements b.close d.statements d.close) rest
either_spelled {ts = ts} {t = t} {b = b} {d = d} a g s (no_else {ts = zs} n) e =
    subst (λ z. SpellsStatement ts (if t b.statements b.close no_statements z) zs) e (if_spelled {b = b} a g s n)
either_spelled {b = b} {d = d} a g s (an_else x) e = if_else_spelled {b = b} {d = d} a g s refl x

-- `while`
pub while_spelled : {ts us vs ws rest : List Token} {p : Span} {t : Cond} {f : Assertion} {b : Block}
    → ts ≡ key kw.While p ∷ us → SpellsGuard us t vs → SpellsClause kw.Invariant vs f ws → SpellsWholeBlock ws b rest
    → SpellsStatement ts (while p t f b.statements b.close) rest
while_spelled {p = p} a g s i = let e = g.front in
    spelled_at {us = key kw.While p ∷ sign sg.ParenOpen g.first ∷ g.inner} (cc) (a_while g.within s i)

abbrev pub Loop : List Token → List Token → Type 0
Loop = Seq (Tok (key kw.While)) (Seq (Guard true) (Seq (Any (SpellsClause kw.Invariant)) ABlock))

pub make_while : (xs r : List Token) → Loop xs r → AStatement xs r
make_while _ _ (seq tok (seq (any g) (seq (any f) (any {x = b} a)))) = any (while_spelled {b = b} refl g f a)

pub part_while : (p : Span) (xs r : List Token) → AStatement (key kw.While p ∷ xs) r → Loop (key kw.While p ∷ xs) r
part_while p _ _ (any (a_while t f b)) = seq tok (seq (any (between _ t)) (seq (any f) (a_part b)))
part_while p _ _ (any (a_call t v)) = elim t [ ]

-- what a loop repeats
abbrev pub Repeats : List Token → List Token → Type 0
Repeats = Seq (Any (SpellsClause kw.Invariant)) ABlock

pub repeat_spelled : {ts us rest : List Token} {f : Assertion} {b : Block} → SpellsClause kw.Invariant ts f us
    → SpellsWholeBlock us b rest → SpellsRepeated ts (record { invariant = f; body = b }) rest
repeat_spelled {us = us} i b = record { after_invariant = us; invariant = i; body = b }

pub make_repeat : (xs r : List Token) → Repeats xs r → Any SpellsRepeated xs r
make_repeat _ _ (seq (any {x = f} i) (any {x = b} a)) =
    any {x = record { invariant = f; body = b }} (repeat_spelled {b = b} i a)

pub part_repeat : (xs r : List Token) → Any SpellsRepeated xs r → Repeats xs r
part_repeat _ _ (any {x = x} s) = seq (any s.invariant) (any {x = x.body} s.body)

-- statements that begin with a name
abbrev SpellsName : List Token → Occ → List Token → Type 0
SpellsName ts o rest = ts ≡ named o ∷ rest

abbrev NamedStatement : List Token → List Token → Type 0
NamedStatement = Then SpellsName (λ o. Any (SpellsNamed o))

make_named : (xs r : List Token) → NamedStatement xs r → AStatement xs r
make_named xs r (and_then e (any a)) = any (spelled_at e a)

part_named : (xs r : List Token) → NoKey kw.Free xs → NoKey kw.Return xs → NoKey kw.If xs → NoKey kw.While xs
    → AStatement xs r → NamedStatement xs r
part_named _ _ k l m n (any (a_set a)) = and_then refl (any (a_set a))
part_named _ _ k l m n (any a_new) = and_then refl (any a_new)
part_named _ _ k l m n (any (a_write a)) = and_then refl (any (a_write a))
part_named _ _ k l m n (any (bare_call v)) = and_then refl (any (bare_call v))
part_named _ _ k l m n (any (a_call last_target v)) = and_then refl (any (a_call last_target v))
part_named _ _ k l m n (any (a_call (next_target t) v)) = and_then refl (any (a_call (next_target t) v))
part_named _ _ k l m n (any a_free) = absurd (k _ _ refl)
part_named _ _ k l m n (any (a_return v)) = absurd (l _ _ refl)
part_named _ _ k l m n (any (an_if t b e)) = absurd (m _ _ refl)
part_named _ _ k l m n (any (an_if_else t b d)) = absurd (m _ _ refl)
part_named _ _ k l m n (any (a_while t f b)) = absurd (n _ _ refl)

make_name : (xs r : List Token) → Tok named xs r → Any SpellsName xs r
make_name _ _ tok = any refl

part_name : (xs r : List Token) → Any SpellsName xs r → Tok named xs r
part_name xs r (any e) = taken_tok _ e

from_arguments : {o : Occ} {ts rest : List Token} → Arguments ts rest → Any (SpellsNamed o) ts rest
from_arguments (any a) = any (bare_spelled a)

any_named : (rest : List Token) → EndsHere rest
    → (us : List Token) × EndsHere us × ((o : Occ) → Any (SpellsNamed o) us rest)
any_named rest h = let s = ends_arguments.sentence rest h in (s.0, s.1, λ o. from_arguments s.2)

pub no_statement : {ts left : List Token} → NoKey kw.Free ts → NoKey kw.Return ts → NoKey kw.If ts → NoKey kw.While ts
    → Stops EndsHere (Tok named) ts left → Stops EndsHere AStatement ts left
no_statement k l m n s =
    by make_named (λ xs r d h. part_named xs r (begins_not k d) (begins_not l d) (begins_not m d) (begins_not n d) h)
    (first_then any_named (form make_name part_name s))

-- statements up to a brace, and blocks
make_last : (xs r : List Token) → Tok (sign sg.BraceClose) xs r → ARun xs r
make_last _ _ tok = a_run no_more

pub make_more : (xs r : List Token) → Seq AStatement ARun xs r → ARun xs r
make_more _ _ (seq (any s) (any a)) = a_run (one_more s a)

more_of : {a : Statements} {c : Span} {ts rest : List Token} → NoSign sg.BraceClose ts → SpellsStatements ts a c rest
    → Seq AStatement ARun ts rest
more_of n no_more = absurd (n _ _ refl)
more_of n (one_more s a) = seq (any s) (a_run a)

pub part_more : (xs r : List Token) → NoSign sg.BraceClose xs → ARun xs r → Seq AStatement ARun xs r
part_more xs r n (any a) = more_of n a

pub make_block : (xs r : List Token) → Seq (Tok (sign sg.BraceOpen)) ARun xs r → ABlock xs r
make_block _ _ (seq tok (any a)) = a_part (a_block a)

block_parts : {a : Statements} {c : Span} {ts rest : List Token} → SpellsBlock ts a c rest
    → Seq (Tok (sign sg.BraceOpen)) ARun ts rest
block_parts (a_block a) = seq tok (a_run a)

pub part_block : (xs r : List Token) → ABlock xs r → Seq (Tok (sign sg.BraceOpen)) ARun xs r
part_block xs r (any b) = block_parts b

pub ends_run : Ends EndsHere ARun
ends_run = ends_by make_last (ends_tok first_place refl)

pub ends_block : Ends EndsHere ABlock
ends_block = ends_by make_block (ends_seq (ends_tok first_place refl) ends_run)

-- each statement is exact
unique_statement : (ts : List Token) → IsUnique (SpellsStatement ts)
unique_statement ts x y r q a b = one_statement ts r q x y a b

abbrev Set : List Token → List Token → Type 0
Set = Seq (Tok named) (Seq (Tok (sign sg.Assign)) (Seq (Any (SpellsExpr true)) (Tok (sign sg.Semicolon))))

make_set : (xs r : List Token) → Set xs r → AStatement xs r
make_set _ _ (seq tok (seq tok (seq (any a) tok))) = any (a_set a)

abbrev New : List Token → List Token → Type 0
New = Seq (Tok named) (Seq (Tok (sign sg.Assign))
    (Seq (Tok (key kw.New)) (Seq (Tok (key kw.Node)) (Tok (sign sg.Semicolon)))))

make_new : (xs r : List Token) → New xs r → AStatement xs r
make_new _ _ (seq tok (seq tok (seq tok (seq tok tok)))) = any a_new

make_put : (xs r : List Token) → Seq (Tok named) Write xs r → AStatement xs r
make_put _ _ (seq tok (seq tok (seq tok (seq tok (seq (any a) tok))))) = any (a_write a)

make_bare : (xs r : List Token) → Seq (Tok named) Arguments xs r → AStatement xs r
make_bare _ _ (seq tok (any a)) = any (bare_spelled a)

make_call : (xs r : List Token) → Seq (Any SpellsTargets) (Seq (Tok named) Arguments) xs r → AStatement xs r
make_call _ _ (seq (any t) (seq tok (any a))) = any (call_spelled t refl a)

exact_call : {ts us : List Token} {es : List Expr} {p q : Span}
    → SpellsValues sg.ParenClose ts es (sign sg.Semicolon q ∷ us) → Exact Arguments (sign sg.ParenOpen p ∷ ts) us
exact_call v = exact_arguments _ _ (make_arguments _ _ (seq tok (seq (any v) tok)))

rest_block : {ts us : List Token} {a : Statements} {c : Span} → SpellsBlock ts a c us → (y : Block) (vs : List Token)
    → SpellsWholeBlock ts y vs → us ≡ vs
rest_block {ts = ts} {us = us} {a = a} {c = c} b y vs d = (one_block ts us vs a y.statements c y.close b d).rest

rest_run : {ts us : List Token} {a : Statements} {c : Span} → SpellsStatements ts a c us → (y : Block) (vs : List Token)
    → SpellsRun ts y vs → us ≡ vs
rest_run {ts = ts} {us = us} {a = a} {c = c} b y vs d = (one_statements ts us vs a y.statements c y.close b d).rest

mutual
  pub exact_statement : (ts : List Token) (x : Statement) (us : List Token) → SpellsStatement ts x us
      → Exact AStatement ts us
  exact_statement _ _ _ (a_set a) =
      kept _ (unique_statement _) (a_set a) make_set
      (exact_seq (exact_tok tok) (exact_seq (exact_tok tok) (exact_seq (exact_expr _ _ (any a)) (exact_tok tok))))
  exact_statement _ _ _ a_new =
      kept _ (unique_statement _) a_new make_new
      (exact_seq (exact_tok tok)
      (exact_seq (exact_tok tok) (exact_seq (exact_tok tok) (exact_seq (exact_tok tok) (exact_tok tok)))))
  exact_statement _ _ _ (a_write a) =
      kept _ (unique_statement _) (a_write a) make_put
      (exact_seq (exact_tok tok)
      (exact_seq (exact_tok tok)
      (exact_seq (exact_tok tok)
      (exact_seq (exact_tok tok) (exact_seq (exact_expr _ _ (any a)) (exact_tok tok))))))
  exact_statement _ _ _ a_free =
      kept _ (unique_statement _) a_free make_free
      (exact_seq (exact_tok tok) (exact_seq (exact_tok tok) (exact_tok tok)))
  exact_statement _ _ _ (bare_call v) =
      kept _ (unique_statement _) (bare_call v) make_bare (exact_seq (exact_tok tok) (exact_call v))
  exact_statement _ _ _ (a_call t v) =
      kept _ (unique_statement _) (a_call t v) make_call
      (exact_seq (exact_targets _ _ _ t) (exact_seq (exact_tok tok) (exact_call v)))
  exact_statement _ _ _ (an_if t b n) =
      kept _ (unique_statement _) (an_if t b n) make_if
      (exact_seq (exact_tok tok)
      (exact_seq (exact_within (exact_test _ _ _ t)) (exact_seq (exact_block b) (exact_without (λ p. refl) n))))
  exact_statement _ _ _ (an_if_else t b d) =
      kept _ (unique_statement _) (an_if_else t b d) make_if
      (exact_seq (exact_tok tok)
      (exact_seq (exact_within (exact_test _ _ _ t)) (exact_seq (exact_block b) (exact_with _ (exact_block d)))))
  exact_statement _ _ _ (a_while t f b) =
      kept _ (unique_statement _) (a_while t f b) make_while
      (exact_seq (exact_tok tok)
      (exact_seq (exact_within (exact_test _ _ _ t))
      (exact_seq (exact_clause (λ p. refl) _ _ (any f)) (exact_block b))))
  exact_statement _ _ _ (a_return v) =
      kept _ (unique_statement _) (a_return v) make_return
      (exact_seq (exact_tok tok) (exact_values (λ e. cc) _ _ (any v)))

  exact_block : {ts us : List Token} {a : Statements} {c : Span} → SpellsBlock ts a c us → Exact ABlock ts us
  exact_block (a_block a) = kept_rest (rest_block (a_block a)) make_block (exact_seq (exact_tok tok) (exact_run a))

  pub exact_run : {ts us : List Token} {a : Statements} {c : Span} → SpellsStatements ts a c us → Exact ARun ts us
  exact_run no_more = kept_rest (rest_run no_more) make_last (exact_tok tok)
  exact_run (one_more s a) =
      kept_rest (rest_run (one_more s a)) make_more (exact_seq (exact_statement _ _ _ s) (exact_run a))

pub exact_part : (ts us : List Token) → ABlock ts us → Exact ABlock ts us
exact_part ts us (any b) = exact_block b

-- measures of the calls
pub step_less : {t : Token} {ts us : List Token} → ts ≡ t ∷ us → length us < length ts
step_less {t = t} {ts = ts} {us = us} e = let d : length ts ≡ length (t ∷ us) = ap length e in omega arith

pub part_less : {ts rest : List Token} {b : Block} → SpellsWholeBlock ts b rest → length rest < length ts
part_less {ts = ts} {rest = rest} {b = b} s = shorter_block s

pub guarded_less : {k : Token} {ts us vs : List Token} {t : Cond} → ts ≡ k ∷ us → SpellsGuard us t vs
    → 4 * length vs + 1 < 4 * length ts + 1
guarded_less a g = let h = step_less a in let k = guard_less g in omega arith

pub otherwise_less : {ts us vs ws : List Token} {p : Span} {t : Cond} {b : Block} → ts ≡ key kw.If p ∷ us
    → SpellsGuard us t vs → SpellsWholeBlock vs b ws → 4 * length ws + 1 < 4 * length ts + 1
otherwise_less {b = b} a g s = let h = step_less a in let k = guard_less g in let m = part_less {b = b} s in omega arith

pub body_less : {ts us : List Token} {f : Assertion} → SpellsClause kw.Invariant ts f us
    → 4 * length us < 4 * length ts + 1
body_less s = let m = shorter_clause s in omega arith

-- statements one by one
pub runs_more : {start now rest : List Token} {xs ys : List Statement} {x : Statement} → Runs start now xs
    → SpellsStatement now x rest → NoSign sg.BraceClose now → ys ≡ xs ++ x ∷ [] → Runs start rest ys
runs_more {start = start} {now = now} {rest = rest} {xs = xs} {ys = ys} {x = x} r s n e =
    let h = shorter_statement s in let k = r.left in
    record {
      goes =
          record {
            forth = λ p end i.
                subst (λ z. SpellsStatements start z p.close end)
                (sym (ap (λ z. before statement_first z p.statements) e
                ∙ before-append statement_first xs x p.statements))
                (r.goes.forth (record { statements = statement_first x p.statements; close = p.close }) end
                (one_more s i));
            back = λ left i. r.goes.back left
                (by make_more (λ zs q d j. part_more zs q (begins_not n d) j) (next (each exact_statement) (any s) i));
          };
      left = omega arith;
    }

pub runs_end : {start now rest : List Token} {xs : List Statement} {p : Span} → Runs start now xs
    → now ≡ sign sg.BraceClose p ∷ rest
    → SpellsRun start (record { statements = statements_of xs; close = p }) rest
runs_end {start = start} {now = now} {rest = rest} {xs = xs} {p = p} r e =
    subst (λ z. SpellsStatements start z p rest) (before-none xs)
    (r.goes.forth (record { statements = no_statements; close = p }) rest
    (subst (λ z. SpellsStatements z no_statements p rest) (sym e) no_more))

pub block_spelled : {ts us : List Token} {p : Span} → ts ≡ sign sg.BraceOpen p ∷ us → (x : Block) (rest : List Token)
    → SpellsRun us x rest → SpellsWholeBlock ts x rest
block_spelled e x rest s = subst (λ z. SpellsBlock z x.statements x.close rest) (sym e) (a_block s)

pub pushed : (xs ys : List Stmt) (x : Stmt) → ys ≡ xs ++ x ∷ []
    → map statement_of ys ≡ map statement_of xs ++ statement_of x ∷ []
pushed xs ys x e = ap (λ z. map statement_of z) e ∙ map-append statement_of xs (x ∷ [])
