-- How procedures are made, and their rules as those that are put together.
use Rattle.std.proofs.Common.{◌≡◌, ◌∙◌, ◌<◌, List, [], ◌∷◌, ◌++◌, Option, Some, None, length, refl, sym, subst, ap}
use Rattle.std.proofs.Common.{append_assoc, append-nil, arith}
use Rattle.gh_base.specs.declared.place.Span.{Span}
use Rattle.gh_ast.specs.declared.Occ.{Occ}
use Rattle.gh_ast.specs.declared.sign.Sign.TheVariants as sg
use Rattle.gh_ast.specs.declared.sign.Keyword.TheVariants as kw
use Rattle.gh_ast.specs.Plain.{Assertion, Block, Body, Procedure}
use Rattle.gh_ast.specs.Tokens.{Token, named, key, sign, first_place}
use Rattle.gh_ast.specs.Grammar.{NoSign, NoKey, SpellsClause, SpellsEnsures, SpellsLocals, last_local, next_local}
use Rattle.gh_ast.specs.Grammar.{SpellsOpenBody, no_locals, some_locals, SpellsParams, last_param, next_param}
use Rattle.gh_ast.specs.Grammar.{SpellsHeader, no_params, params, SpellsResults, no_results, results, SpellsBody}
use Rattle.gh_ast.specs.Grammar.{no_body, a_body, SpellsProcedure, a_procedure}
use Rattle.gh_ast.specs.Readings.{IsUnique}
use Rattle.gh_ast.proofs.OneStatement.{no_var_first}
use Rattle.gh_ast.proofs.OneProgram.{one_locals, one_inside, one_params, one_header, one_results, one_body}
use Rattle.gh_ast.proofs.OneProgram.{one_procedure_at}
use Rattle.gh_ast.proofs.ShorterStatement.{shorter_locals}
use Rattle.gh_parse.specs.Stops.{Tok, tok, Any, any, Seq, seq, Opt, without, with, Tail, ended, further, EndsHere}
use Rattle.gh_parse.specs.Statements.{SpellsRun}
use Rattle.gh_parse.specs.Procedures.{AddsLocals, Head, SpellsHeading, Ended, SpellsEnded}
use Rattle.gh_parse.proofs.Rules.{Exact, exact_tok, exact_seq, exact_with, exact_without, exact_ended, exact_further}
use Rattle.gh_parse.proofs.Rules.{exact_by, kept, kept_rest, each, apart, apart_seq, by, form, told, next, after, Ends}
use Rattle.gh_parse.proofs.Rules.{ends_tok, ends_seq, ends_opt, ends_tail, ends_by}
use Rattle.gh_parse.proofs.Turns.{Goes}
use Rattle.gh_parse.proofs.AssertionForms.{exact_clause, ends_clause, exact_ensures, ends_ensures}
use Rattle.gh_parse.proofs.StatementForms.{ARun, a_run, exact_run, ends_run}

-- names with commas between them, and `: Node ;`
abbrev pub LocalsEnd : List Token → List Token → Type 0
LocalsEnd = Seq (Tok (sign sg.Colon)) (Seq (Tok (key kw.Node)) (Tok (sign sg.Semicolon)))

abbrev pub Locals : List Token → List Token → Type 0
Locals = Seq (Tok named) (Tail (sign sg.Comma) LocalsEnd (Any SpellsLocals))

pub make_locals : (xs r : List Token) → Locals xs r → Any SpellsLocals xs r
make_locals _ _ (seq tok (ended (seq tok (seq tok tok)))) = any last_local
make_locals _ _ (seq tok (further (any l))) = any (next_local l)

pub part_locals : (xs r : List Token) → Any SpellsLocals xs r → Locals xs r
part_locals _ _ (any last_local) = seq tok (ended (seq tok (seq tok tok)))
part_locals _ _ (any (next_local l)) = seq tok (further (any l))

pub no_comma_locals : (p : Span) (ts rest : List Token) → LocalsEnd (sign sg.Comma p ∷ ts) rest → ⊥
no_comma_locals = apart_seq (sign sg.Comma) (apart (λ p q e. cc))

pub ends_locals_end : Ends EndsHere LocalsEnd
ends_locals_end =
    ends_seq (ends_tok first_place refl) (ends_seq (ends_tok first_place refl) (ends_tok first_place refl))

unique_locals : (ts : List Token) → IsUnique (SpellsLocals ts)
unique_locals ts x y r q a b = one_locals ts r q x y a b

pub exact_locals : (ts : List Token) (l : List Occ) (us : List Token) → SpellsLocals ts l us
    → Exact (Any SpellsLocals) ts us
exact_locals _ _ _ last_local =
    kept _ (unique_locals _) last_local make_locals
    (exact_seq (exact_tok tok)
    (exact_ended no_comma_locals (seq tok (seq tok tok))
    (exact_seq (exact_tok tok) (exact_seq (exact_tok tok) (exact_tok tok)))))
exact_locals _ _ _ (next_local l) =
    kept _ (unique_locals _) (next_local l) make_locals
    (exact_seq (exact_tok tok) (exact_further _ no_comma_locals (exact_locals _ _ _ l)))

pub make_adds : {old : List Occ} (xs r : List Token) → Any SpellsLocals xs r → Any (AddsLocals old) xs r
make_adds _ _ (any s) = any (record { locals = _; spelled = s; added = refl })

pub part_adds : {old : List Occ} (xs r : List Token) → Any (AddsLocals old) xs r → Any SpellsLocals xs r
part_adds _ _ (any a) = any a.spelled

pub declared_start : (ts : List Token) (old : List Occ)
    → Goes EndsHere SpellsLocals (AddsLocals old) ts ts (λ xs. old ++ xs)
declared_start ts old = record {
  forth = λ xs rest s. record { locals = xs; spelled = s; added = refl };
  back = λ left s. form make_adds part_adds s;
}

locals_at : {ts us rest : List Token} {xs : List Occ} → ts ≡ us → SpellsLocals us xs rest → SpellsLocals ts xs rest
locals_at {rest = rest} {xs = xs} e s = subst (λ z. SpellsLocals z xs rest) (sym e) s

pub declared_last : {ts us vs ws rest : List Token} {o : Occ} {p q r : Span} → ts ≡ named o ∷ us
    → us ≡ sign sg.Colon p ∷ vs → vs ≡ key kw.Node q ∷ ws → ws ≡ sign sg.Semicolon r ∷ rest
    → SpellsLocals ts (o ∷ []) rest
declared_last {rest = rest} {o = o} {p = p} {q = q} {r = r} e d c b =
    locals_at {us = named o ∷ sign sg.Colon p ∷ key kw.Node q ∷ sign sg.Semicolon r ∷ rest} (cc) last_local

pub declared_more : {ts us vs : List Token} {o : Occ} {p : Span} → ts ≡ named o ∷ us → us ≡ sign sg.Comma p ∷ vs
    → (l : List Occ) (rest : List Token) → SpellsLocals vs l rest → SpellsLocals ts (o ∷ l) rest
declared_more {vs = vs} {o = o} {p = p} e d l rest s =
    locals_at {us = named o ∷ sign sg.Comma p ∷ vs} (cc) (next_local s)

-- what stands inside of a procedure, with more locals in front
abbrev pub inside_after : List Occ → Body → Body
inside_after xs b = record { locals = xs ++ b.locals; statements = b.statements; close = b.close }

abbrev pub Declared : List Token → List Token → Type 0
Declared = Seq (Tok (key kw.Var)) (Seq (Any SpellsLocals) (Any SpellsOpenBody))

pub make_declared : (xs r : List Token) → Declared xs r → Any SpellsOpenBody xs r
make_declared _ _ (seq tok (seq (any {x = xs} a) (any {x = b} i))) = any {x = inside_after xs b} (some_locals a i)

pub part_declared : (p : Span) (xs r : List Token) → Any SpellsOpenBody (key kw.Var p ∷ xs) r
    → Declared (key kw.Var p ∷ xs) r
part_declared p _ _ (any (some_locals a i)) = seq tok (seq (any a) (any i))
part_declared p _ _ (any (no_locals a)) = absurd (no_var_first a)

pub make_body : (xs r : List Token) → ARun xs r → Any SpellsOpenBody xs r
make_body _ _ (any {x = p} a) =
    any {x = record { locals = []; statements = p.statements; close = p.close }} (no_locals a)

pub part_body : (xs r : List Token) → NoKey kw.Var xs → Any SpellsOpenBody xs r → ARun xs r
part_body _ _ n (any (no_locals a)) = a_run a
part_body _ _ n (any (some_locals a i)) = absurd (n _ _ refl)

unique_inside : (ts : List Token) → IsUnique (SpellsOpenBody ts)
unique_inside ts x y r q a b = one_inside ts r q x y a b

pub exact_inside : (ts : List Token) (b : Body) (us : List Token) → SpellsOpenBody ts b us
    → Exact (Any SpellsOpenBody) ts us
exact_inside _ _ _ (no_locals a) = kept _ (unique_inside _) (no_locals a) make_body (exact_run a)
exact_inside _ _ _ (some_locals a i) =
    kept _ (unique_inside _) (some_locals a i) make_declared
    (exact_seq (exact_tok tok) (exact_seq (exact_locals _ _ _ a) (exact_inside _ _ _ i)))

pub ends_inside : Ends EndsHere (Any SpellsOpenBody)
ends_inside = ends_by make_body ends_run

pub inside_more : {start ts us vs : List Token} {xs ys : List Occ} {p : Span}
    → Goes EndsHere SpellsOpenBody SpellsOpenBody ts start (inside_after xs) → ts ≡ key kw.Var p ∷ us
    → AddsLocals xs us ys vs
    → Goes EndsHere SpellsOpenBody SpellsOpenBody vs start (inside_after ys)
inside_more {start = start} {ts = ts} {us = us} {vs = vs} {xs = xs} {ys = ys} {p = p} g e a =
    let d : (zs : List Occ) → ys ++ zs ≡ xs ++ (a.locals ++ zs) =
    λ zs. ap (λ z. z ++ zs) a.added ∙ append_assoc xs a.locals zs in
    record {
      forth = λ b rest s.
          subst (λ z. SpellsOpenBody start (record { locals = z; statements = b.statements; close = b.close }) rest)
          (sym (d b.locals))
          (g.forth (inside_after a.locals b) rest
          (subst (λ z. SpellsOpenBody z (inside_after a.locals b) rest) (sym e) (some_locals a.spelled s)));
      back = λ left s. g.back left
          (by make_declared (told _ _ _ e part_declared) (after p e (next (each exact_locals) (any a.spelled) s)));
    }

pub inside_less : {ts us vs : List Token} {xs ys : List Occ} {p : Span} → ts ≡ key kw.Var p ∷ us
    → AddsLocals xs us ys vs → length vs < length ts
inside_less {ts = ts} {us = us} {p = p} e a = let h = shorter_locals a.spelled in
    let d : length ts ≡ length (key kw.Var p ∷ us) = ap length e in omega arith

pub inside_spelled : {start ts rest : List Token} {xs : List Occ} {p : Block}
    → Goes EndsHere SpellsOpenBody SpellsOpenBody ts start (inside_after xs) → SpellsRun ts p rest
    → SpellsOpenBody start (record { locals = xs; statements = p.statements; close = p.close }) rest
inside_spelled {start = start} {rest = rest} {xs = xs} {p = p} g s =
    subst (λ z. SpellsOpenBody start (record { locals = z; statements = p.statements; close = p.close }) rest)
    (append-nil xs)
    (g.forth (record { locals = []; statements = p.statements; close = p.close }) rest (no_locals s))

-- parameters
abbrev pub NextParams : List Token → List Token → Type 0
NextParams = Tail (sign sg.Comma) (Tok (sign sg.ParenClose)) (Any SpellsParams)

abbrev pub Params : List Token → List Token → Type 0
Params = Seq (Tok named) (Seq (Tok (sign sg.Colon)) (Seq (Tok (key kw.Node)) NextParams))

pub make_params : (xs r : List Token) → Params xs r → Any SpellsParams xs r
make_params _ _ (seq tok (seq tok (seq tok (ended tok)))) = any last_param
make_params _ _ (seq tok (seq tok (seq tok (further (any l))))) = any (next_param l)

pub part_params : (xs r : List Token) → Any SpellsParams xs r → Params xs r
part_params _ _ (any last_param) = seq tok (seq tok (seq tok (ended tok)))
part_params _ _ (any (next_param l)) = seq tok (seq tok (seq tok (further (any l))))

pub no_comma_params : (p : Span) (ts rest : List Token) → Tok (sign sg.ParenClose) (sign sg.Comma p ∷ ts) rest → ⊥
no_comma_params = apart (λ p q e. cc)

unique_params : (ts : List Token) → IsUnique (SpellsParams ts)
unique_params ts x y r q a b = one_params ts r q x y a b

exact_params : (ts : List Token) (l : List Occ) (us : List Token) → SpellsParams ts l us
    → Exact (Any SpellsParams) ts us
exact_params _ _ _ last_param =
    kept _ (unique_params _) last_param make_params
    (exact_seq (exact_tok tok)
    (exact_seq (exact_tok tok) (exact_seq (exact_tok tok) (exact_ended no_comma_params tok (exact_tok tok)))))
exact_params _ _ _ (next_param l) =
    kept _ (unique_params _) (next_param l) make_params
    (exact_seq (exact_tok tok)
    (exact_seq (exact_tok tok)
    (exact_seq (exact_tok tok) (exact_further _ no_comma_params (exact_params _ _ _ l)))))

pub ends_next_params : Ends EndsHere NextParams
ends_next_params = ends_tail (ends_tok first_place refl)

params_at : {ts us rest : List Token} {xs : List Occ} → ts ≡ us → SpellsParams us xs rest → SpellsParams ts xs rest
params_at {rest = rest} {xs = xs} e s = subst (λ z. SpellsParams z xs rest) (sym e) s

pub parameter_last : {ts us vs ws rest : List Token} {o : Occ} {p q r : Span} → ts ≡ named o ∷ us
    → us ≡ sign sg.Colon p ∷ vs → vs ≡ key kw.Node q ∷ ws → ws ≡ sign sg.ParenClose r ∷ rest
    → SpellsParams ts (o ∷ []) rest
parameter_last {rest = rest} {o = o} {p = p} {q = q} {r = r} e d c b =
    params_at {us = named o ∷ sign sg.Colon p ∷ key kw.Node q ∷ sign sg.ParenClose r ∷ rest} (cc) last_param

pub parameter_more : {ts us vs ws xs : List Token} {o : Occ} {p q r : Span} → ts ≡ named o ∷ us
    → us ≡ sign sg.Colon p ∷ vs → vs ≡ key kw.Node q ∷ ws → ws ≡ sign sg.Comma r ∷ xs
    → (l : List Occ) (rest : List Token) → SpellsParams xs l rest → SpellsParams ts (o ∷ l) rest
parameter_more {xs = xs} {o = o} {p = p} {q = q} {r = r} e d c b l rest s =
    params_at {us = named o ∷ sign sg.Colon p ∷ key kw.Node q ∷ sign sg.Comma r ∷ xs} (cc) (next_param s)

-- none, or some
make_no_params : (xs r : List Token) → Tok (sign sg.ParenClose) xs r → Any SpellsHeader xs r
make_no_params _ _ tok = any no_params

pub make_header : (xs r : List Token) → Any SpellsParams xs r → Any SpellsHeader xs r
make_header _ _ (any l) = any (params l)

pub part_header : (xs r : List Token) → NoSign sg.ParenClose xs → Any SpellsHeader xs r → Any SpellsParams xs r
part_header _ _ n (any no_params) = absurd (n _ _ refl)
part_header _ _ n (any (params l)) = any l

unique_header : (ts : List Token) → IsUnique (SpellsHeader ts)
unique_header ts x y r q a b = one_header ts r q x y a b

pub exact_header : (ts : List Token) (l : List Occ) (us : List Token) → SpellsHeader ts l us
    → Exact (Any SpellsHeader) ts us
exact_header _ _ _ no_params = kept _ (unique_header _) no_params make_no_params (exact_tok tok)
exact_header _ _ _ (params l) = kept _ (unique_header _) (params l) make_header (exact_params _ _ _ l)

pub ends_header : Ends EndsHere (Any SpellsHeader)
ends_header = ends_by make_no_params (ends_tok first_place refl)

pub header_none : {ts rest : List Token} {xs : List Occ} {p : Span} → ts ≡ sign sg.ParenClose p ∷ rest → xs ≡ []
    → SpellsHeader ts xs rest
header_none {ts = ts} {rest = rest} {xs = xs} {p = p} e d =
    subst (λ z. SpellsHeader z xs rest) (sym e)
    (subst (λ z. SpellsHeader (sign sg.ParenClose p ∷ rest) z rest) (sym d) (no_params {p = p}))

-- results
abbrev pub Results : List Token → List Token → Type 0
Results = Opt (key kw.Returns) (Seq (Tok (sign sg.ParenOpen)) (Any SpellsHeader))

pub make_results : (xs r : List Token) → Results xs r → Any SpellsResults xs r
make_results _ _ (without n) = any (no_results n)
make_results _ _ (with (seq tok (any l))) = any (results l)

pub part_results : (xs r : List Token) → Any SpellsResults xs r → Results xs r
part_results _ _ (any (no_results n)) = without n
part_results _ _ (any (results l)) = with (seq tok (any l))

unique_results : (ts : List Token) → IsUnique (SpellsResults ts)
unique_results ts x y r q a b = one_results ts r q x y a b

pub exact_results : (ts : List Token) (l : List Occ) (us : List Token) → SpellsResults ts l us
    → Exact (Any SpellsResults) ts us
exact_results _ _ _ (no_results n) = kept _ (unique_results _) (no_results n) make_results (exact_without (λ p. refl) n)
exact_results _ _ _ (results l) =
    kept _ (unique_results _) (results l) make_results (exact_with _ (exact_seq (exact_tok tok) (exact_header _ _ _ l)))

pub ends_results : Ends EndsHere (Any SpellsResults)
ends_results = ends_by make_results (ends_opt (λ p. refl))

pub results_none : {ts : List Token} {xs : List Occ} → NoKey kw.Returns ts → xs ≡ [] → SpellsResults ts xs ts
results_none {ts = ts} n d = subst (λ z. SpellsResults ts z ts) (sym d) (no_results n)

pub results_some : {ts us vs : List Token} {p q : Span} → ts ≡ key kw.Returns p ∷ us → us ≡ sign sg.ParenOpen q ∷ vs
    → (l : List Occ) (rest : List Token) → SpellsHeader vs l rest → SpellsResults ts l rest
results_some {ts = ts} {vs = vs} {p = p} {q = q} e d l rest s =
    let c : ts ≡ key kw.Returns p ∷ sign sg.ParenOpen q ∷ vs = e ∙ ap (λ z. key kw.Returns p ∷ z) d in
    subst (λ z. SpellsResults z l rest) (sym c) (results s)

-- the end of a procedure: a semicolon, or a body
abbrev pub AnEnd : List Token → List Token → Type 0
AnEnd = Any SpellsEnded

an_end : {b : Option Body} {c : Span} {ts rest : List Token} → SpellsBody ts b c rest → AnEnd ts rest
an_end {b = b} {c = c} a = any {x = record { body = b; close = c }} a

make_no_body : (xs r : List Token) → Tok (sign sg.Semicolon) xs r → AnEnd xs r
make_no_body _ _ tok = an_end no_body

pub make_end : (xs r : List Token) → Seq (Tok (sign sg.BraceOpen)) (Any SpellsOpenBody) xs r → AnEnd xs r
make_end _ _ (seq tok (any i)) = an_end (a_body i)

body_parts : {b : Option Body} {c : Span} {ts rest : List Token} → NoSign sg.Semicolon ts → SpellsBody ts b c rest
    → Seq (Tok (sign sg.BraceOpen)) (Any SpellsOpenBody) ts rest
body_parts n no_body = absurd (n _ _ refl)
body_parts n (a_body i) = seq tok (any i)

pub part_end : (xs r : List Token) → NoSign sg.Semicolon xs → AnEnd xs r
    → Seq (Tok (sign sg.BraceOpen)) (Any SpellsOpenBody) xs r
part_end xs r n (any b) = body_parts n b

rest_end : {ts us : List Token} {b : Option Body} {c : Span} → SpellsBody ts b c us → (y : Ended) (vs : List Token)
    → SpellsEnded ts y vs → us ≡ vs
rest_end {ts = ts} {us = us} {b = b} {c = c} a y vs d = (one_body ts us vs b y.body c y.close a d).rest

exact_body : {b : Option Body} {c : Span} {ts us : List Token} → SpellsBody ts b c us → Exact AnEnd ts us
exact_body no_body = kept_rest (rest_end no_body) make_no_body (exact_tok tok)
exact_body (a_body i) = kept_rest (rest_end (a_body i)) make_end (exact_seq (exact_tok tok) (exact_inside _ _ _ i))

pub ends_end : Ends EndsHere AnEnd
ends_end = ends_by make_no_body (ends_tok first_place refl)

pub ended_none : {ts rest : List Token} {p : Span} → ts ≡ sign sg.Semicolon p ∷ rest
    → SpellsEnded ts (record { body = None; close = p }) rest
ended_none {rest = rest} {p = p} e = subst (λ z. SpellsBody z None p rest) (sym e) no_body

pub ended_some : {ts us rest : List Token} {p c : Span} {b : Body} → ts ≡ sign sg.BraceOpen p ∷ us
    → SpellsOpenBody us b rest → b.close ≡ c → SpellsEnded ts (record { body = Some b; close = c }) rest
ended_some {ts = ts} {rest = rest} {b = b} e s d =
    subst (λ z. SpellsBody ts (Some b) z rest) d (subst (λ z. SpellsBody z (Some b) b.close rest) (sym e) (a_body s))

-- procedures: what stands before the contracts, and what comes after it
abbrev pub AHeading : List Token → List Token → Type 0
AHeading = Any SpellsHeading

abbrev pub AfterBracket : List Token → List Token → Type 0
AfterBracket = Seq (Any SpellsHeader) (Any SpellsResults)

abbrev pub Heading : List Token → List Token → Type 0
Heading = Seq (Tok (key kw.Procedure)) (Seq (Tok named) (Seq (Tok (sign sg.ParenOpen)) AfterBracket))

pub heading_spelled : {ts us vs ws zs rest : List Token} {f : Occ} {p q : Span} {xs ys : List Occ}
    → ts ≡ key kw.Procedure p ∷ us → us ≡ named f ∷ vs → vs ≡ sign sg.ParenOpen q ∷ ws
    → SpellsHeader ws xs zs → SpellsResults zs ys rest
    → SpellsHeading ts (record { name = f; parameters = xs; results = ys }) rest
heading_spelled {ws = ws} {zs = zs} {p = p} {q = q} a b c h r =
    record { word = p; bracket = q; inside = ws; after_parameters = zs; front = cc; parameters = h; results = r }

pub make_heading : (xs r : List Token) → Heading xs r → AHeading xs r
make_heading _ _ (seq tok (seq (tok {p = f}) (seq tok (seq (any {x = xs} h) (any {x = ys} r))))) =
    any {x = record { name = f; parameters = xs; results = ys }} (heading_spelled refl refl refl h r)

heading_at : {ts us vs rest : List Token} {f : Occ} {p q : Span} {xs ys : List Occ}
    → ts ≡ key kw.Procedure p ∷ named f ∷ sign sg.ParenOpen q ∷ us → SpellsHeader us xs vs → SpellsResults vs ys rest
    → Heading ts rest
heading_at e h r = rw e (seq tok (seq tok (seq tok (seq (any h) (any r)))))

pub part_heading : (xs r : List Token) → AHeading xs r → Heading xs r
part_heading _ _ (any s) = heading_at s.front s.parameters s.results

exact_parts : {ts us vs : List Token} {f : Occ} {p q : Span} {xs ys : List Occ} → SpellsHeader ts xs us
    → SpellsResults us ys vs
    → Exact AHeading (key kw.Procedure p ∷ named f ∷ sign sg.ParenOpen q ∷ ts) vs
exact_parts h r =
    exact_by make_heading (λ v. part_heading _ v)
    (exact_seq (exact_tok tok)
    (exact_seq (exact_tok tok)
    (exact_seq (exact_tok tok) (exact_seq (exact_header _ _ _ h) (exact_results _ _ _ r)))))

pub exact_heading : (ts us : List Token) → AHeading ts us → Exact AHeading ts us
exact_heading ts us (any s) = subst (λ z. Exact AHeading z us) (sym s.front) (exact_parts s.parameters s.results)

pub ends_after_bracket : Ends EndsHere AfterBracket
ends_after_bracket = ends_seq ends_header ends_results

abbrev pub AfterResults : List Token → List Token → Type 0
AfterResults = Seq (Any (SpellsClause kw.Requires)) (Seq (Any SpellsEnsures) AnEnd)

abbrev pub AProcedure : List Token → List Token → Type 0
AProcedure = Seq AHeading AfterResults

pub procedure_spelled : {ts us ws zs rest : List Token} {h : Head} {k : Assertion} {l : List Assertion} {e : Ended}
    → SpellsHeading ts h us → SpellsClause kw.Requires us k ws → SpellsEnsures ws l zs
    → SpellsEnded zs e rest
    → SpellsProcedure ts (record {
      name = h.name;
      parameters = h.parameters;
      results = h.results;
      needs = k;
      gives = l;
      body = e.body;
      close = e.close;
    }) rest
procedure_spelled {rest = rest} {h = h} {k = k} {l = l} {e = e} s c d b =
    let x : Procedure = record {
      name = h.name;
      parameters = h.parameters;
      results = h.results;
      needs = k;
      gives = l;
      body = e.body;
      close = e.close;
    } in
    subst (λ z. SpellsProcedure z x rest) (sym s.front) (a_procedure s.parameters s.results c d b)

pub make_procedure : (xs r : List Token) → AProcedure xs r → Any SpellsProcedure xs r
make_procedure _ _ (seq (any s) (seq (any f) (seq (any g) (any b)))) = any (procedure_spelled s f g b)

pub part_procedure : (xs r : List Token) → Any SpellsProcedure xs r → AProcedure xs r
part_procedure _ _ (any (a_procedure h r f g b)) =
    seq (make_heading _ _ (seq tok (seq tok (seq tok (seq (any h) (any r)))))) (seq (any f) (seq (any g) (an_end b)))

unique_procedure : (ts : List Token) → IsUnique (SpellsProcedure ts)
unique_procedure ts x y r q a b = one_procedure_at ts r q x y a b

pub exact_procedure : (ts : List Token) (x : Procedure) (us : List Token) → SpellsProcedure ts x us
    → Exact (Any SpellsProcedure) ts us
exact_procedure _ _ _ (a_procedure h r f g b) =
    kept _ (unique_procedure _) (a_procedure h r f g b) make_procedure
    (exact_seq (exact_parts h r)
    (exact_seq (exact_clause (λ p. refl) _ _ (any f)) (exact_seq (exact_ensures _ _ (any g)) (exact_body b))))

pub ends_after_results : Ends EndsHere AfterResults
ends_after_results = ends_seq (ends_clause (λ p. refl)) (ends_seq ends_ensures ends_end)
