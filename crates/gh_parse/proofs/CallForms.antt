-- How assignments and calls are made, and their rules as those that are put together.
use Rattle.std.proofs.Common.{◌≡◌, List, [], ◌∷◌, true, refl, sym, subst}
use Rattle.gh_base.specs.declared.place.Span.{Span}
use Rattle.gh_ast.specs.declared.Occ.{Occ}
use Rattle.gh_ast.specs.declared.Operand.TheVariants as operand
use Rattle.gh_ast.specs.declared.Expr.{Expr}
use Rattle.gh_ast.specs.declared.Expr.TheVariants as expr
use Rattle.gh_ast.specs.declared.sign.Sign.TheVariants as sg
use Rattle.gh_ast.specs.declared.sign.Keyword.TheVariants as kw
use Rattle.gh_ast.specs.Plain.{Statement, set, new, write, call}
use Rattle.gh_ast.specs.Tokens.{Token, named, key, sign, first_place}
use Rattle.gh_ast.specs.Grammar.{NoSign, NoKey, SpellsExpr, plain, variable, SpellsValues, SpellsTargets, last_target}
use Rattle.gh_ast.specs.Grammar.{next_target, SpellsStatement, a_set, a_new, a_write, bare_call, a_call}
use Rattle.gh_ast.specs.Readings.{IsUnique}
use Rattle.gh_ast.proofs.OneStatement.{one_targets}
use Rattle.gh_parse.specs.Stops.{Tok, tok, Any, any, Seq, seq, Then, and_then, Tail, ended, further, EndsHere, Stops}
use Rattle.gh_parse.specs.Answers.{HasSign}
use Rattle.gh_parse.specs.Statements.{SpellsArguments, SpellsTargetsFrom, SpellsNamed}
use Rattle.gh_parse.proofs.Rules.{Exact, exact_tok, exact_seq, exact_by, exact_ended, exact_further, kept, taken_tok}
use Rattle.gh_parse.proofs.Rules.{apart, by, past, here, told, begins, begins_not, nothing_here, Ends, ends_tok}
use Rattle.gh_parse.proofs.Rules.{ends_seq, ends_by, plain_first}
use Rattle.gh_parse.proofs.ValueForms.{exact_values, ends_values}

-- a statement at equal tokens
pub spelled_at : {ts us rest : List Token} {x : Statement} → ts ≡ us → SpellsStatement us x rest
    → SpellsStatement ts x rest
spelled_at {rest = rest} {x = x} e s = subst (λ z. SpellsStatement z x rest) (sym e) s

abbrev pub Arguments : List Token → List Token → Type 0
Arguments = Any SpellsArguments

-- values in brackets, and a semicolon
abbrev pub Values : List Token → List Token → Type 0
Values = Seq (Tok (sign sg.ParenOpen)) (Seq (Any (SpellsValues sg.ParenClose)) (Tok (sign sg.Semicolon)))

pub make_arguments : (xs r : List Token) → Values xs r → Arguments xs r
make_arguments _ _ (seq tok (seq (any v) tok)) =
    any (record { bracket = _; end = _; inside = _; front = refl; values = v })

pub part_arguments : (xs r : List Token) → Arguments xs r → Values xs r
part_arguments _ _ (any a) = seq (taken_tok _ a.front) (seq (any a.values) tok)

pub exact_arguments : (ts us : List Token) → Arguments ts us → Exact Arguments ts us
exact_arguments _ _ (any a) =
    exact_by make_arguments (part_arguments _)
    (exact_seq (exact_tok (taken_tok _ a.front))
    (exact_seq (exact_values (λ e. cc) _ _ (any a.values)) (exact_tok tok)))

pub ends_arguments : Ends EndsHere Arguments
ends_arguments =
    ends_by make_arguments (ends_seq (ends_tok first_place refl)
    (ends_seq (ends_values first_place refl) (ends_tok first_place refl)))

-- targets
abbrev pub NextTargets : List Token → List Token → Type 0
NextTargets = Tail (sign sg.Comma) (Tok (sign sg.Assign)) (Any SpellsTargets)

pub make_targets : (xs r : List Token) → Seq (Tok named) NextTargets xs r → Any SpellsTargets xs r
make_targets _ _ (seq tok (ended tok)) = any last_target
make_targets _ _ (seq tok (further (any t))) = any (next_target t)

pub part_targets : (xs r : List Token) → Any SpellsTargets xs r → Seq (Tok named) NextTargets xs r
part_targets _ _ (any last_target) = seq tok (ended tok)
part_targets _ _ (any (next_target t)) = seq tok (further (any t))

pub make_targets_from : {o : Occ} (xs r : List Token) → NextTargets xs r → Any (SpellsTargetsFrom o) xs r
make_targets_from _ _ (ended tok) = any last_target
make_targets_from _ _ (further (any t)) = any (next_target t)

pub part_targets_from : {o : Occ} (xs r : List Token) → Any (SpellsTargetsFrom o) xs r → NextTargets xs r
part_targets_from _ _ (any last_target) = ended tok
part_targets_from _ _ (any (next_target t)) = further (any t)

pub no_comma : (p : Span) (ts rest : List Token) → Tok (sign sg.Assign) (sign sg.Comma p ∷ ts) rest → ⊥
no_comma = apart (λ p q e. cc)

unique_targets : (ts : List Token) → IsUnique (SpellsTargets ts)
unique_targets ts x y r q a b = one_targets ts r q x y a b

pub exact_targets : (ts : List Token) (l : List Occ) (us : List Token) → SpellsTargets ts l us
    → Exact (Any SpellsTargets) ts us
exact_targets _ _ _ last_target =
    kept _ (unique_targets _) last_target make_targets
    (exact_seq (exact_tok tok) (exact_ended no_comma tok (exact_tok tok)))
exact_targets _ _ _ (next_target t) =
    kept _ (unique_targets _) (next_target t) make_targets
    (exact_seq (exact_tok tok) (exact_further _ no_comma (exact_targets _ _ _ t)))

pub exact_targets_from : {o : Occ} (ts us : List Token) → Any (SpellsTargetsFrom o) ts us
    → Exact (Any (SpellsTargetsFrom o)) ts us
exact_targets_from _ _ (any last_target) =
    exact_by make_targets_from (part_targets_from _) (exact_ended no_comma tok (exact_tok tok))
exact_targets_from _ _ (any (next_target t)) =
    exact_by make_targets_from (part_targets_from _) (exact_further _ no_comma (exact_targets _ _ _ t))

-- after a first name
from_target : {o : Occ} (xs r : List Token) → Any (SpellsTargetsFrom o) xs r → Any SpellsTargets (named o ∷ xs) r
from_target _ _ (any t) = any t

to_target : {o : Occ} (xs r : List Token) → Any SpellsTargets (named o ∷ xs) r → Any (SpellsTargetsFrom o) xs r
to_target _ _ (any t) = any t

pub in_targets : {F : List Token → Type 0} {o : Occ} {ts us left : List Token} → ts ≡ named o ∷ us
    → Stops F (Any (SpellsTargetsFrom o)) us left → Stops F (Any SpellsTargets) ts left
in_targets e s = past e from_target (λ xs r d h. to_target xs r h) s

from_name : {o : Occ} (xs r : List Token) → Any (SpellsNamed o) xs r → Any SpellsStatement (named o ∷ xs) r
from_name _ _ (any t) = any t

to_name : {o : Occ} (xs r : List Token) → Any SpellsStatement (named o ∷ xs) r → Any (SpellsNamed o) xs r
to_name _ _ (any t) = any t

pub in_named : {F : List Token → Type 0} {o : Occ} {ts us left : List Token} → ts ≡ named o ∷ us
    → Stops F (Any (SpellsNamed o)) us left → Stops F (Any SpellsStatement) ts left
in_named e s = past e from_name (λ xs r d h. to_name xs r h) s

-- `NAME . next := expression ;`
abbrev pub Write : List Token → List Token → Type 0
Write =
    Seq (Tok (sign sg.Dot)) (Seq (Tok (key kw.Next))
    (Seq (Tok (sign sg.Assign)) (Seq (Any (SpellsExpr true)) (Tok (sign sg.Semicolon)))))

pub make_write : {o : Occ} (xs r : List Token) → Write xs r → Any (SpellsNamed o) xs r
make_write _ _ (seq tok (seq tok (seq tok (seq (any a) tok)))) = any (a_write a)

pub part_write : {o : Occ} (p : Span) (xs r : List Token) → Any (SpellsNamed o) (sign sg.Dot p ∷ xs) r
    → Write (sign sg.Dot p ∷ xs) r
part_write p _ _ (any (a_write a)) = seq tok (seq tok (seq tok (seq (any a) tok)))
part_write p _ _ (any (a_call t v)) = elim t [ ]

pub write_spelled : {o : Occ} {ts us vs ws xs rest : List Token} {p q r s : Span} {e : Expr} → ts ≡ sign sg.Dot p ∷ us
    → us ≡ key kw.Next q ∷ vs → vs ≡ sign sg.Assign r ∷ ws
    → SpellsExpr true ws e xs → xs ≡ sign sg.Semicolon s ∷ rest → SpellsStatement (named o ∷ ts) (write o e) rest
write_spelled {o = o} {ws = ws} {p = p} {q = q} {r = r} {e = e} a b c s d =
    spelled_at {us = named o ∷ sign sg.Dot p ∷ key kw.Next q ∷ sign sg.Assign r ∷ ws} (cc)
    (a_write (subst (λ z. SpellsExpr true ws e z) d s))

-- a call to two targets or more, and one without targets
pub call_spelled : {f : Occ} {ts us vs rest : List Token} {xs : List Occ} {es : List Expr} → SpellsTargets ts xs us
    → us ≡ named f ∷ vs → SpellsArguments vs es rest
    → SpellsStatement ts (call xs f es) rest
call_spelled {f = f} {ts = ts} {vs = vs} {xs = xs} s e a =
    let d : vs ≡ sign sg.ParenOpen a.bracket ∷ a.inside = a.front in
    a_call (subst (λ z. SpellsTargets ts xs (named f ∷ z)) d (subst (λ z. SpellsTargets ts xs z) e s)) a.values

pub bare_spelled : {f : Occ} {ts rest : List Token} {es : List Expr} → SpellsArguments ts es rest
    → SpellsStatement (named f ∷ ts) (call [] f es) rest
bare_spelled {f = f} {ts = ts} {es = es} a = let e : ts ≡ sign sg.ParenOpen a.bracket ∷ a.inside = a.front in
    spelled_at {us = named f ∷ sign sg.ParenOpen a.bracket ∷ a.inside} (cc) (bare_call a.values)

pub make_many : {o : Occ} (xs r : List Token) → Seq (Any (SpellsTargetsFrom o)) (Seq (Tok named) Arguments) xs r
    → Any (SpellsNamed o) xs r
make_many _ _ (seq (any t) (seq tok (any a))) = any (call_spelled t refl a)

pub part_many : {o : Occ} (p : Span) (xs r : List Token) → Any (SpellsNamed o) (sign sg.Comma p ∷ xs) r
    → Seq (Any (SpellsTargetsFrom o)) (Seq (Tok named) Arguments) (sign sg.Comma p ∷ xs) r
part_many p _ _ (any (a_call t v)) = seq (any t) (seq tok (make_arguments _ _ (seq tok (seq (any v) tok))))

pub make_bare : {f : Occ} (xs r : List Token) → Arguments xs r → Any (SpellsNamed f) xs r
make_bare _ _ (any a) = any (bare_spelled a)

pub part_bare : {f : Occ} (p : Span) (xs r : List Token) → Any (SpellsNamed f) (sign sg.ParenOpen p ∷ xs) r
    → Arguments (sign sg.ParenOpen p ∷ xs) r
part_bare p _ _ (any (bare_call v)) = make_arguments _ _ (seq tok (seq (any v) tok))
part_bare p _ _ (any (a_call t v)) = elim t [ ]

pub ends_named : (o : Occ) → Ends EndsHere (Any (SpellsNamed o))
ends_named o = ends_by make_bare ends_arguments

-- `NAME := new Node ;`
abbrev pub NewNode : List Token → List Token → Type 0
NewNode = Seq (Tok (key kw.New)) (Seq (Tok (key kw.Node)) (Tok (sign sg.Semicolon)))

make_new : {o : Occ} {p : Span} (xs r : List Token) → NewNode xs r → Any (SpellsNamed o) (sign sg.Assign p ∷ xs) r
make_new _ _ (seq tok (seq tok tok)) = any a_new

part_new : {o : Occ} {p : Span} (q : Span) (xs r : List Token)
    → Any (SpellsNamed o) (sign sg.Assign p ∷ key kw.New q ∷ xs) r → NewNode (key kw.New q ∷ xs) r
part_new q _ _ (any a_new) = seq tok (seq tok tok)
part_new q _ _ (any (a_set (plain a n))) = elim a [ ]
part_new q _ _ (any (a_call t v)) = elim t [ ]

pub in_new : {F : List Token → Type 0} {o : Occ} {p q : Span} {ts us vs left : List Token} → ts ≡ sign sg.Assign p ∷ us
    → us ≡ key kw.New q ∷ vs → Stops F NewNode us left
    → Stops F (Any (SpellsNamed o)) ts left
in_new e f s = past e make_new (told _ _ _ f part_new) s

pub new_spelled : {o : Occ} {ts us vs ws rest : List Token} {p q r s : Span} → ts ≡ sign sg.Assign p ∷ us
    → us ≡ key kw.New q ∷ vs → vs ≡ key kw.Node r ∷ ws → ws ≡ sign sg.Semicolon s ∷ rest
    → SpellsStatement (named o ∷ ts) (new o) rest
new_spelled {o = o} {rest = rest} {p = p} {q = q} {r = r} {s = s} a b c d =
    spelled_at {us = named o ∷ sign sg.Assign p ∷ key kw.New q ∷ key kw.Node r ∷ sign sg.Semicolon s ∷ rest} (cc) a_new

-- what follows an expression after `:=`: a semicolon, or arguments where it is a variable
pub data EndOfSet : Expr → List Token → List Token → Type 0 where
  end_set : {e : Expr} {p : Span} {rest : List Token} → EndOfSet e (sign sg.Semicolon p ∷ rest) rest
  end_call : {f : Occ} {ts rest : List Token} → Arguments ts rest → EndOfSet (expr.Plain (operand.Var f)) ts rest

make_set : {o : Occ} {p : Span} (xs r : List Token) → Then (SpellsExpr true) EndOfSet xs r
    → Any (SpellsNamed o) (sign sg.Assign p ∷ xs) r
make_set _ _ (and_then a end_set) = any (a_set a)
make_set _ _ (and_then (plain variable n) (end_call (any a))) = any (call_spelled last_target refl a)

part_set : {o : Occ} {p : Span} (xs r : List Token) → NoKey kw.New xs → Any (SpellsNamed o) (sign sg.Assign p ∷ xs) r
    → Then (SpellsExpr true) EndOfSet xs r
part_set _ _ n (any (a_set a)) = and_then a end_set
part_set _ _ n (any a_new) = absurd (n _ _ refl)
part_set _ _ n (any (a_call last_target v)) =
    and_then (plain variable (λ p rest e. cc)) (end_call (make_arguments _ _ (seq tok (seq (any v) tok))))

pub in_set : {F : List Token → Type 0} {o : Occ} {p : Span} {ts us left : List Token} → ts ≡ sign sg.Assign p ∷ us
    → NoKey kw.New us → Stops F (Then (SpellsExpr true) EndOfSet) us left
    → Stops F (Any (SpellsNamed o)) ts left
in_set e n s = past e make_set (λ xs r d h. part_set xs r (begins_not n d) h) s

pub ends_of_set : (rest : List Token) → EndsHere rest
    → (us : List Token) × EndsHere us × ((e : Expr) → EndOfSet e us rest)
ends_of_set rest h = (
  sign sg.Semicolon first_place ∷ rest,
  plain_first (sign sg.Semicolon first_place) rest refl,
  λ e. end_set,
)

-- after the expression: no bracket, a bracket after no variable, or arguments
make_end : {e : Expr} (xs r : List Token) → Tok (sign sg.Semicolon) xs r → EndOfSet e xs r
make_end _ _ tok = end_set

part_end : {e : Expr} (xs r : List Token) → NoSign sg.ParenOpen xs → EndOfSet e xs r → Tok (sign sg.Semicolon) xs r
part_end _ _ n end_set = tok
part_end _ r n (end_call (any a)) = absurd (n _ _ a.front)

pub in_end : {F : List Token → Type 0} {e : Expr} {ts left : List Token} → NoSign sg.ParenOpen ts
    → Stops F (Tok (sign sg.Semicolon)) ts left → Stops F (EndOfSet e) ts left
in_end n s = by make_end (λ xs r d h. part_end xs r (begins_not n d) h) s

called_variable : {e : Expr} {p : Span} {xs ys r : List Token} → xs ≡ sign sg.ParenOpen p ∷ ys → EndOfSet e xs r
    → (f : Occ) × (e ≡ expr.Plain (operand.Var f))
called_variable g end_set = cc
called_variable g (end_call a) = (_, refl)

pub no_callee : {e : Expr} {ts : List Token} → HasSign sg.ParenOpen ts
    → ((f : Occ) → e ≡ expr.Plain (operand.Var f) → ⊥) → Stops EndsHere (EndOfSet e) ts ts
no_callee {e = e} g n =
    here [] (λ rest h. (let s = ends_of_set rest h in (s.0, s.1, s.2 e)))
    (λ xs r d h. (let v = called_variable (begins g.2 d).1 h in n v.0 v.1))

make_called : {f : Occ} (xs r : List Token) → Arguments xs r → EndOfSet (expr.Plain (operand.Var f)) xs r
make_called _ _ a = end_call a

part_called : {e : Expr} (p : Span) (xs r : List Token) → EndOfSet e (sign sg.ParenOpen p ∷ xs) r
    → Arguments (sign sg.ParenOpen p ∷ xs) r
part_called p _ _ (end_call a) = a

pub in_called : {F : List Token → Type 0} {f : Occ} {e : Expr} {ts left : List Token} → HasSign sg.ParenOpen ts
    → e ≡ expr.Plain (operand.Var f) → Stops F Arguments ts left → Stops F (EndOfSet e) ts left
in_called {F = F} {ts = ts} {left = left} g e s =
    subst (λ z. Stops F (EndOfSet z) ts left) (sym e) (by make_called (told _ _ _ g.2 part_called) s)

-- `NAME := expression ;` and `NAME := NAME ( values ) ;`
pub set_spelled : {o : Occ} {ts us vs rest : List Token} {p q : Span} {e : Expr} → ts ≡ sign sg.Assign p ∷ us
    → SpellsExpr true us e vs → vs ≡ sign sg.Semicolon q ∷ rest
    → SpellsStatement (named o ∷ ts) (set o e) rest
set_spelled {o = o} {us = us} {p = p} {e = e} a s b =
    spelled_at {us = named o ∷ sign sg.Assign p ∷ us} (cc) (a_set (subst (λ z. SpellsExpr true us e z) b s))

variable_front : (ts rest : List Token) (f : Occ) → SpellsExpr true ts (expr.Plain (operand.Var f)) rest
    → ts ≡ named f ∷ rest
variable_front _ rest f (plain variable n) = refl

pub one_call_spelled : {o f : Occ} {ts us vs rest : List Token} {p : Span} {e : Expr} {es : List Expr}
    → ts ≡ sign sg.Assign p ∷ us → SpellsExpr true us e vs → e ≡ expr.Plain (operand.Var f)
    → SpellsArguments vs es rest → SpellsStatement (named o ∷ ts) (call (o ∷ []) f es) rest
one_call_spelled {o = o} {f = f} {us = us} {vs = vs} {p = p} a s w v =
    let g = variable_front us vs f (subst (λ z. SpellsExpr true us z vs) w s) in
    spelled_at {us = named o ∷ sign sg.Assign p ∷ named f ∷ vs} (cc) (call_spelled last_target refl v)

-- where none of the four tokens follows
no_fit : {o : Occ} (xs r : List Token) → NoSign sg.Assign xs → NoSign sg.Dot xs → NoSign sg.ParenOpen xs
    → NoSign sg.Comma xs → Any (SpellsNamed o) xs r → ⊥
no_fit _ _ n m k l (any (a_set a)) = n _ _ refl
no_fit _ _ n m k l (any a_new) = n _ _ refl
no_fit _ _ n m k l (any (a_write a)) = m _ _ refl
no_fit _ _ n m k l (any (bare_call v)) = k _ _ refl
no_fit _ _ n m k l (any (a_call last_target v)) = n _ _ refl
no_fit _ _ n m k l (any (a_call (next_target t) v)) = l _ _ refl

pub no_named : {o : Occ} {ts : List Token} → NoSign sg.Assign ts → NoSign sg.Dot ts → NoSign sg.ParenOpen ts
    → NoSign sg.Comma ts → Stops EndsHere (Any (SpellsNamed o)) ts ts
no_named {o = o} n m k l =
    nothing_here (ends_named o)
    (λ xs r d h. no_fit xs r (begins_not n d) (begins_not m d) (begins_not k d) (begins_not l d) h)
