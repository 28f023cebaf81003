-- The rules of operands and expressions as those that are put together.
use Rattle.std.proofs.Common.{◌≡◌, List, [], ◌∷◌, Bool, true, false, refl, sym, subst}
use Rattle.std.specs.Prelude.{codes}
use Rattle.gh_base.specs.declared.place.Span.{Span}
use Rattle.gh_ast.specs.declared.Occ.{Occ}
use Rattle.gh_ast.specs.declared.Operand.{Operand}
use Rattle.gh_ast.specs.declared.Operand.TheVariants as operand
use Rattle.gh_ast.specs.declared.Expr.{Expr}
use Rattle.gh_ast.specs.declared.sign.Sign.{Sign}
use Rattle.gh_ast.specs.declared.sign.Sign.TheVariants as sg
use Rattle.gh_ast.specs.declared.sign.Keyword.TheVariants as kw
use Rattle.gh_ast.specs.Tokens.{Token, named, key, sign, first_place}
use Rattle.gh_ast.specs.Grammar.{SpellsOperand, null_operand, variable, SpellsExpr, plain, read, SpellsExprs, last_expr}
use Rattle.gh_ast.specs.Grammar.{next_expr, SpellsValues, no_values, some_values}
use Rattle.gh_ast.proofs.OneValue.{one_operand, one_expr, one_exprs, one_values}
use Rattle.gh_parse.specs.Stops.{NoToken, Tok, tok, Any, any, Seq, seq, Then, and_then, Tail, ended, further, goes_on}
use Rattle.gh_parse.specs.Stops.{EndsHere, Stops}
use Rattle.gh_parse.proofs.Rules.{Exact, exact_tok, exact_seq, exact_ended, exact_further, kept, ExactAs, exact_any}
use Rattle.gh_parse.proofs.Rules.{begins, through, here, begins_not, by, apart, Ends, ends_tok, ends_by, plain_first}

-- a name for sentences that are made up
pub a_name : Occ
a_name = record { name = codes "x"; span = first_place }

-- operands
make_null : (xs r : List Token) → Tok (key kw.Null) xs r → Any SpellsOperand xs r
make_null _ _ tok = any null_operand

make_name : (xs r : List Token) → Tok named xs r → Any SpellsOperand xs r
make_name _ _ tok = any variable

part_name : (xs r : List Token) → NoToken (key kw.Null) xs → Any SpellsOperand xs r → Tok named xs r
part_name _ _ n (any null_operand) = absurd (n _ _ refl)
part_name _ _ n (any variable) = tok

pub exact_operand : (ts us : List Token) → Any SpellsOperand ts us → Exact (Any SpellsOperand) ts us
exact_operand _ _ (any null_operand) = kept _ (one_operand _) null_operand make_null (exact_tok tok)
exact_operand _ _ (any variable) = kept _ (one_operand _) variable make_name (exact_tok tok)

pub ends_operand : Ends EndsHere (Any SpellsOperand)
ends_operand = ends_by make_name (ends_tok a_name refl)

-- an operand is a name where `null` isn't next
pub in_operand : {ts left : List Token} → NoToken (key kw.Null) ts → Stops EndsHere (Tok named) ts left
    → Stops EndsHere (Any SpellsOperand) ts left
in_operand n s = by make_name (λ xs r d h. part_name xs r (begins_not n d) h) s

-- expressions
pub exact_as_operand : (ts : List Token) (o : Operand) (us : List Token) → SpellsOperand ts o us
    → ExactAs SpellsOperand ts o us
exact_as_operand _ _ us (null_operand {p = p}) =
    record {
      taken = key kw.Null p ∷ [];
      split = refl;
      again = λ vs h. null_operand;
      value = λ y vs b. (one_operand _ _ _ _ _ null_operand b).value;
      only = λ y vs b. (one_operand _ _ _ _ _ null_operand b).rest;
    }
exact_as_operand _ _ us (variable {o = o}) =
    record {
      taken = named o ∷ [];
      split = refl;
      again = λ vs h. variable;
      value = λ y vs b. (one_operand _ _ _ _ _ variable b).value;
      only = λ y vs b. (one_operand _ _ _ _ _ variable b).rest;
    }

pub exact_as_expr : {reads : Bool} (ts : List Token) (e : Expr) (us : List Token) → SpellsExpr reads ts e us
    → ExactAs (SpellsExpr reads) ts e us
exact_as_expr {reads = reads} ts _ us (plain a n) =
    let f = exact_as_operand ts _ us a in
    record {
      taken = f.taken;
      split = f.split;
      again = λ vs h. plain (f.again vs h) (λ p. h (sign sg.Dot p) refl (n p));
      value = λ y vs b. (one_expr reads ts _ _ _ _ (plain a n) b).value;
      only = λ y vs b. (one_expr reads ts _ _ _ _ (plain a n) b).rest;
    }
exact_as_expr _ _ us (read {o = o} {p = p} {q = q}) =
    record {
      taken = named o ∷ sign sg.Dot p ∷ key kw.Next q ∷ [];
      split = refl;
      again = λ vs h. read;
      value = λ y vs b. (one_expr true _ _ _ _ _ read b).value;
      only = λ y vs b. (one_expr true _ _ _ _ _ read b).rest;
    }

pub exact_expr : {reads : Bool} (ts us : List Token) → Any (SpellsExpr reads) ts us
    → Exact (Any (SpellsExpr reads)) ts us
exact_expr _ _ (any a) = exact_any (exact_as_expr _ _ _ a)

pub ends_expr : (reads : Bool) → Ends EndsHere (Any (SpellsExpr reads))
ends_expr reads =
    record {
      sentence = λ rest h.
          (named a_name ∷ rest, plain_first (named a_name) rest refl, any (plain variable (λ p. h (sign sg.Dot p) refl)));
    }

-- what follows an operand in an expression
pub data EndOf (reads : Bool) : Operand → List Token → List Token → Type 0 where
  no_read : {o : Operand} {rest : List Token} → NoToken (sign sg.Dot) rest → EndOf reads o rest rest
  a_read : {o : Occ} {p q : Span} {rest : List Token} → reads ≡ true
      → EndOf reads (operand.Var o) (sign sg.Dot p ∷ key kw.Next q ∷ rest) rest

read_as : {reads : Bool} {o : Occ} {p q : Span} {rest : List Token} → reads ≡ true
    → Any (SpellsExpr reads) (named o ∷ sign sg.Dot p ∷ key kw.Next q ∷ rest) rest
read_as {reads = true} e = any read
read_as {reads = false} e = cc

pub make_expr : {reads : Bool} (xs r : List Token) → Then SpellsOperand (EndOf reads) xs r → Any (SpellsExpr reads) xs r
make_expr _ _ (and_then a (no_read n)) = any (plain a n)
make_expr _ _ (and_then variable (a_read e)) = read_as e

pub part_expr : {reads : Bool} (xs r : List Token) → Any (SpellsExpr reads) xs r → Then SpellsOperand (EndOf reads) xs r
part_expr _ _ (any (plain a n)) = and_then a (no_read n)
part_expr _ _ (any read) = and_then variable (a_read refl)

pub ends_of : (reads : Bool) (rest : List Token) → EndsHere rest
    → (us : List Token) × EndsHere us × ((o : Operand) → EndOf reads o us rest)
ends_of reads rest h = (rest, h, λ o. no_read (λ p. h (sign sg.Dot p) refl))

-- after a dot only a read is left
only_read : {reads : Bool} {o : Operand} {p : Span} {xs ys r : List Token} → xs ≡ sign sg.Dot p ∷ ys
    → EndOf reads o xs r → (reads ≡ true) × (at : Occ) × (o ≡ operand.Var at)
only_read e (no_read n) = absurd (n _ _ e)
only_read e (a_read t) = (t, _, refl)

pub no_read_here : {reads : Bool} {o : Operand} {p : Span} {us vs : List Token} → us ≡ sign sg.Dot p ∷ vs
    → ((at : Occ) → reads ≡ true → o ≡ operand.Var at → ⊥) → Stops EndsHere (EndOf reads o) us us
no_read_here {reads = reads} {o = o} e n =
    here [] (λ rest h. (rest, h, no_read (λ p. h (sign sg.Dot p) refl)))
    (λ xs r d h. (let k = only_read (begins e d).1 h in n k.1 k.0 k.2))

make_read : {reads : Bool} {o : Occ} (p : Span) → reads ≡ true → (xs r : List Token) → Tok (key kw.Next) xs r
    → EndOf reads (operand.Var o) (sign sg.Dot p ∷ xs) r
make_read p e _ _ tok = a_read e

next_read : {reads : Bool} {o : Operand} {p : Span} {zs xs r : List Token} → zs ≡ sign sg.Dot p ∷ xs
    → EndOf reads o zs r → Tok (key kw.Next) xs r
next_read e (no_read n) = absurd (n _ _ e)
next_read {xs = xs} {r = r} e (a_read {q = q} t) = let k : key kw.Next q ∷ r ≡ xs = cc in
    subst (λ z. Tok (key kw.Next) z r) k tok

pub in_read : {reads : Bool} {o : Occ} {us vs left : List Token} (p : Span) → reads ≡ true → us ≡ sign sg.Dot p ∷ vs
    → Stops EndsHere (Tok (key kw.Next)) vs left
    → Stops EndsHere (EndOf reads (operand.Var o)) us left
in_read {reads = reads} {o = o} {left = left} p t e s =
    subst (λ z. Stops EndsHere (EndOf reads (operand.Var o)) z left) (sym e)
    (through (sign sg.Dot p ∷ []) (make_read p t) (λ xs r d h. next_read refl h) s)

pub variable_is : {ts us : List Token} {o : Operand} {at : Occ} → o ≡ operand.Var at → SpellsOperand ts o us
    → SpellsOperand ts (operand.Var at) us
variable_is {ts = ts} {us = us} e a = subst (λ z. SpellsOperand ts z us) e a

-- lists of expressions
abbrev pub Exprs : Sign → List Token → List Token → Type 0
Exprs close = Seq (Any (SpellsExpr true)) (Tail (sign sg.Comma) (Tok (sign close)) (Any (SpellsExprs close)))

pub make_exprs : {close : Sign} (xs r : List Token) → Exprs close xs r → Any (SpellsExprs close) xs r
make_exprs _ _ (seq (any a) (ended tok)) = any (last_expr a)
make_exprs _ _ (seq (any a) (further (any b))) = any (next_expr a b)

pub part_exprs : {close : Sign} (xs r : List Token) → Any (SpellsExprs close) xs r → Exprs close xs r
part_exprs _ _ (any (last_expr a)) = seq (any a) (ended tok)
part_exprs _ _ (any (next_expr a b)) = seq (any a) (further (any b))

pub no_comma : {close : Sign} → (close ≡ sg.Comma → ⊥) → (p : Span) (ts rest : List Token)
    → Tok (sign close) (sign sg.Comma p ∷ ts) rest → ⊥
no_comma c = apart (λ p q e. c cc)

exact_exprs : {close : Sign} → (close ≡ sg.Comma → ⊥) → (ts : List Token) (l : List Expr) (us : List Token)
    → SpellsExprs close ts l us → Exact (Any (SpellsExprs close)) ts us
exact_exprs {close = close} c _ _ _ (last_expr a) =
    kept _ (one_exprs close _ c) (last_expr a) make_exprs
    (exact_seq (exact_expr _ _ (any a)) (exact_ended (no_comma c) tok (exact_tok tok)))
exact_exprs {close = close} c _ _ _ (next_expr a b) =
    kept _ (one_exprs close _ c) (next_expr a b) make_exprs
    (exact_seq (exact_expr _ _ (any a)) (exact_further _ (no_comma c) (exact_exprs c _ _ _ b)))

pub make_values : {close : Sign} (xs r : List Token) → Any (SpellsExprs close) xs r → Any (SpellsValues close) xs r
make_values _ _ (any a) = any (some_values a)

pub part_values : {close : Sign} (xs r : List Token) → NoToken (sign close) xs → Any (SpellsValues close) xs r
    → Any (SpellsExprs close) xs r
part_values _ _ n (any no_values) = absurd (n _ _ refl)
part_values _ _ n (any (some_values a)) = any a

make_no_values : {close : Sign} (xs r : List Token) → Tok (sign close) xs r → Any (SpellsValues close) xs r
make_no_values _ _ tok = any no_values

pub exact_values : {close : Sign} → (close ≡ sg.Comma → ⊥) → (ts us : List Token) → Any (SpellsValues close) ts us
    → Exact (Any (SpellsValues close)) ts us
exact_values {close = close} c _ _ (any no_values) =
    kept _ (one_values close _ c) no_values make_no_values (exact_tok tok)
exact_values {close = close} c _ _ (any (some_values a)) =
    kept _ (one_values close _ c) (some_values a) make_values (exact_exprs c _ _ _ a)

pub ends_values : {close : Sign} (p : Span) → goes_on (sign close p) ≡ false → Ends EndsHere (Any (SpellsValues close))
ends_values p f = ends_by make_no_values (ends_tok p f)

pub values_at : {close : Sign} {ts us r : List Token} (es : List Expr) → us ≡ ts → SpellsExprs close us es r
    → SpellsValues close ts es r
values_at {close = close} {r = r} es e a = some_values (subst (λ z. SpellsExprs close z es r) e a)
