-- The grammar: which tokens spell what. `Spells.. ts x rest` says that the tokens ts are those of x and then the rest.
-- A list goes on as long as its separator follows.
use Rattle.std.specs.Prelude.{◌≡◌, ℕ, List, [], ◌∷◌, ◌++◌, Bool, true, false, Option, Some, None, codes}
use Rattle.gh_base.specs.declared.place.Span.{Span}
use Rattle.gh_ast.specs.declared.Occ.{Occ}
use Rattle.gh_ast.specs.declared.Operand.{Operand}
use Rattle.gh_ast.specs.declared.Operand.TheVariants as operand
use Rattle.gh_ast.specs.declared.Expr.{Expr}
use Rattle.gh_ast.specs.declared.Expr.TheVariants as expr
use Rattle.gh_ast.specs.declared.Field.{Field}
use Rattle.gh_ast.specs.declared.sign.Sign.{Sign}
use Rattle.gh_ast.specs.declared.sign.Sign.TheVariants as sg
use Rattle.gh_ast.specs.declared.sign.Keyword.{Keyword}
use Rattle.gh_ast.specs.declared.sign.Keyword.TheVariants as kw
use Rattle.gh_ast.specs.Plain.{Cond, compare, negation, conjunction, disjunction, Conds, no_conds, cond_first}
use Rattle.gh_ast.specs.Plain.{Assertion, empty, comparison, points_to, cell, segment, star, cases, Assertions}
use Rattle.gh_ast.specs.Plain.{no_assertions, assertion_first, Statement, set, new, write, free, call, if, while}
use Rattle.gh_ast.specs.Plain.{return, Statements, no_statements, statement_first, Body, Procedure, Program}
use Rattle.gh_ast.specs.Tokens.{Token, named, key, sign, HasTokens}

-- the next token isn't this sign, or this reserved word
abbrev pub NoSign : Sign → List Token → Type 0
NoSign s ts = (p : Span) (rest : List Token) → ts ≡ sign s p ∷ rest → ⊥

abbrev pub NoKey : Keyword → List Token → Type 0
NoKey k ts = (p : Span) (rest : List Token) → ts ≡ key k p ∷ rest → ⊥

pub data SpellsOperand : List Token → Operand → List Token → Type 0 where
  null_operand : {p : Span} {rest : List Token} → SpellsOperand (key kw.Null p ∷ rest) (operand.Null p) rest
  variable : {o : Occ} {rest : List Token} → SpellsOperand (named o ∷ rest) (operand.Var o) rest

-- an operand, or a read where reads may stand
pub data SpellsExpr : Bool → List Token → Expr → List Token → Type 0 where
  plain : {reads : Bool} {ts rest : List Token} {o : Operand} → SpellsOperand ts o rest → NoSign sg.Dot rest
      → SpellsExpr reads ts (expr.Plain o) rest
  read : {o : Occ} {p q : Span} {rest : List Token}
      → SpellsExpr true (named o ∷ sign sg.Dot p ∷ key kw.Next q ∷ rest) (expr.Read o) rest

-- one or more expressions with commas between them, and then the closing sign
pub data SpellsExprs : Sign → List Token → List Expr → List Token → Type 0 where
  last_expr : {close : Sign} {ts rest : List Token} {p : Span} {e : Expr} → SpellsExpr true ts e (sign close p ∷ rest)
      → SpellsExprs close ts (e ∷ []) rest
  next_expr : {close : Sign} {ts us rest : List Token} {p : Span} {e : Expr} {es : List Expr}
      → SpellsExpr true ts e (sign sg.Comma p ∷ us) → SpellsExprs close us es rest → SpellsExprs close ts (e ∷ es) rest

-- none or more, and then the closing sign
pub data SpellsValues : Sign → List Token → List Expr → List Token → Type 0 where
  no_values : {close : Sign} {p : Span} {rest : List Token} → SpellsValues close (sign close p ∷ rest) [] rest
  some_values : {close : Sign} {ts rest : List Token} {es : List Expr} → SpellsExprs close ts es rest
      → SpellsValues close ts es rest

-- tests: literals, conjunctions of literals, disjunctions of conjunctions
mutual
  pub data SpellsLit : Bool → List Token → Cond → List Token → Type 0 where
    negated : {reads : Bool} {p q r : Span} {ts rest : List Token} {t : Cond}
        → SpellsCond reads ts t (sign sg.ParenClose r ∷ rest)
        → SpellsLit reads (sign sg.Bang p ∷ sign sg.ParenOpen q ∷ ts) (negation t) rest
    bracketed : {reads : Bool} {p q : Span} {ts rest : List Token} {t : Cond}
        → SpellsCond reads ts t (sign sg.ParenClose q ∷ rest) → SpellsLit reads (sign sg.ParenOpen p ∷ ts) t rest
    equated : {reads : Bool} {p : Span} {ts us rest : List Token} {l r : Expr}
        → SpellsExpr reads ts l (sign sg.Equal p ∷ us) → SpellsExpr reads us r rest
        → SpellsLit reads ts (compare l true r) rest
    distinguished : {reads : Bool} {p : Span} {ts us rest : List Token} {l r : Expr}
        → SpellsExpr reads ts l (sign sg.Unequal p ∷ us) → SpellsExpr reads us r rest
        → SpellsLit reads ts (compare l false r) rest

  pub data SpellsConj : Bool → List Token → Cond → List Token → Type 0 where
    one_lit : {reads : Bool} {ts rest : List Token} {t : Cond} → SpellsLit reads ts t rest → NoSign sg.And rest
        → SpellsConj reads ts t rest
    lits : {reads : Bool} {p : Span} {ts us rest : List Token} {t : Cond} {l : Conds}
        → SpellsLit reads ts t (sign sg.And p ∷ us) → SpellsLits reads us l rest
        → SpellsConj reads ts (conjunction (cond_first t l)) rest

  pub data SpellsLits : Bool → List Token → Conds → List Token → Type 0 where
    last_lit : {reads : Bool} {ts rest : List Token} {t : Cond} → SpellsLit reads ts t rest → NoSign sg.And rest
        → SpellsLits reads ts (cond_first t no_conds) rest
    next_lit : {reads : Bool} {p : Span} {ts us rest : List Token} {t : Cond} {l : Conds}
        → SpellsLit reads ts t (sign sg.And p ∷ us) → SpellsLits reads us l rest
        → SpellsLits reads ts (cond_first t l) rest

  pub data SpellsCond : Bool → List Token → Cond → List Token → Type 0 where
    one_conj : {reads : Bool} {ts rest : List Token} {t : Cond} → SpellsConj reads ts t rest → NoSign sg.Or rest
        → SpellsCond reads ts t rest
    conjs : {reads : Bool} {p : Span} {ts us rest : List Token} {t : Cond} {l : Conds}
        → SpellsConj reads ts t (sign sg.Or p ∷ us) → SpellsConjs reads us l rest
        → SpellsCond reads ts (disjunction (cond_first t l)) rest

  pub data SpellsConjs : Bool → List Token → Conds → List Token → Type 0 where
    last_conj : {reads : Bool} {ts rest : List Token} {t : Cond} → SpellsConj reads ts t rest → NoSign sg.Or rest
        → SpellsConjs reads ts (cond_first t no_conds) rest
    next_conj : {reads : Bool} {p : Span} {ts us rest : List Token} {t : Cond} {l : Conds}
        → SpellsConj reads ts t (sign sg.Or p ∷ us) → SpellsConjs reads us l rest
        → SpellsConjs reads ts (cond_first t l) rest

-- assertions: items with `&*&` between them; tests of cases have no reads
mutual
  pub data SpellsItem : List Token → Assertion → List Token → Type 0 where
    emp : {p : Span} {rest : List Token} → SpellsItem (key kw.Emp p ∷ rest) empty rest
    acc : {p q r : Span} {o : Occ} {rest : List Token}
        → SpellsItem (key kw.Acc p ∷ sign sg.ParenOpen q ∷ named o ∷ sign sg.ParenClose r ∷ rest) (cell o) rest
    lseg : {p q r s : Span} {ts us rest : List Token} {x y : Operand}
        → SpellsOperand ts x (sign sg.Comma r ∷ us) → SpellsOperand us y (sign sg.ParenClose s ∷ rest)
        → SpellsItem (key kw.Lseg p ∷ sign sg.ParenOpen q ∷ ts) (segment x y) rest
    pointed : {o : Occ} {p q r : Span} {ts rest : List Token} {y : Operand}
        → SpellsOperand ts y rest
        → SpellsItem (named o ∷ sign sg.Dot p ∷ key kw.Next q ∷ sign sg.Arrow r ∷ ts) (points_to o y) rest
    same : {p : Span} {ts us rest : List Token} {l r : Operand}
        → SpellsOperand ts l (sign sg.Equal p ∷ us) → SpellsOperand us r rest → SpellsItem ts (comparison l true r) rest
    different : {p : Span} {ts us rest : List Token} {l r : Operand}
        → SpellsOperand ts l (sign sg.Unequal p ∷ us) → SpellsOperand us r rest
        → SpellsItem ts (comparison l false r) rest
    by_cases : {p q r b c d e f : Span} {ts us vs rest : List Token} {t : Cond} {x y : Assertion}
        → SpellsCond false ts t (sign sg.ParenClose r ∷ sign sg.BraceOpen b ∷ us)
        → SpellsAssertion us x (sign sg.BraceClose c ∷ key kw.Else d ∷ sign sg.BraceOpen e ∷ vs)
        → SpellsAssertion vs y (sign sg.BraceClose f ∷ rest)
        → SpellsItem (key kw.If p ∷ sign sg.ParenOpen q ∷ ts) (cases t x y) rest
    in_brackets : {p q : Span} {ts rest : List Token} {x : Assertion}
        → SpellsAssertion ts x (sign sg.ParenClose q ∷ rest) → SpellsItem (sign sg.ParenOpen p ∷ ts) x rest

  pub data SpellsAssertion : List Token → Assertion → List Token → Type 0 where
    one_item : {ts rest : List Token} {x : Assertion} → SpellsItem ts x rest → NoSign sg.Star rest
        → SpellsAssertion ts x rest
    items : {p : Span} {ts us rest : List Token} {x : Assertion} {l : Assertions}
        → SpellsItem ts x (sign sg.Star p ∷ us) → SpellsItems us l rest
        → SpellsAssertion ts (star (assertion_first x l)) rest

  pub data SpellsItems : List Token → Assertions → List Token → Type 0 where
    last_item : {ts rest : List Token} {x : Assertion} → SpellsItem ts x rest → NoSign sg.Star rest
        → SpellsItems ts (assertion_first x no_assertions) rest
    next_item : {p : Span} {ts us rest : List Token} {x : Assertion} {l : Assertions}
        → SpellsItem ts x (sign sg.Star p ∷ us) → SpellsItems us l rest → SpellsItems ts (assertion_first x l) rest

-- one assertion or more with `||` between two
pub data SpellsAlternatives : List Token → List Assertion → List Token → Type 0 where
  last_alternative : {ts rest : List Token} {x : Assertion} → SpellsAssertion ts x rest → NoSign sg.Or rest
      → SpellsAlternatives ts (x ∷ []) rest
  next_alternative : {p : Span} {ts us rest : List Token} {x : Assertion} {l : List Assertion}
      → SpellsAssertion ts x (sign sg.Or p ∷ us) → SpellsAlternatives us l rest → SpellsAlternatives ts (x ∷ l) rest

-- a part after its word, or what stands for it where the word is missing
pub data SpellsAfter (X : Type 0) (Part : List Token → X → List Token → Type 0) (missing : X) (k : Keyword) : List Token
    → X → List Token → Type 0 where
  no_clause : {rest : List Token} → NoKey k rest → SpellsAfter X Part missing k rest missing rest
  a_clause : {p : Span} {ts rest : List Token} {x : X} → Part ts x rest
      → SpellsAfter X Part missing k (key k p ∷ ts) x rest

-- an assertion; a missing one is `emp`
abbrev pub SpellsClause : Keyword → List Token → Assertion → List Token → Type 0
SpellsClause = SpellsAfter Assertion SpellsAssertion empty

-- alternatives; missing ones are `emp` alone
abbrev pub SpellsEnsures : List Token → List Assertion → List Token → Type 0
SpellsEnsures = SpellsAfter (List Assertion) SpellsAlternatives (empty ∷ []) kw.Ensures

-- one or more names with commas between them, and then `:=`
pub data SpellsTargets : List Token → List Occ → List Token → Type 0 where
  last_target : {o : Occ} {p : Span} {rest : List Token}
      → SpellsTargets (named o ∷ sign sg.Assign p ∷ rest) (o ∷ []) rest
  next_target : {o : Occ} {p : Span} {ts rest : List Token} {l : List Occ} → SpellsTargets ts l rest
      → SpellsTargets (named o ∷ sign sg.Comma p ∷ ts) (o ∷ l) rest

mutual
  pub data SpellsStatement : List Token → Statement → List Token → Type 0 where
    a_set : {o : Occ} {p q : Span} {ts rest : List Token} {e : Expr}
        → SpellsExpr true ts e (sign sg.Semicolon q ∷ rest)
        → SpellsStatement (named o ∷ sign sg.Assign p ∷ ts) (set o e) rest
    a_new : {o : Occ} {p q r s : Span} {rest : List Token}
        → SpellsStatement (named o ∷ sign sg.Assign p ∷ key kw.New q ∷ key kw.Node r ∷ sign sg.Semicolon s ∷ rest)
        (new o) rest
    a_write : {o : Occ} {p q r s : Span} {ts rest : List Token} {e : Expr}
        → SpellsExpr true ts e (sign sg.Semicolon s ∷ rest)
        → SpellsStatement (named o ∷ sign sg.Dot p ∷ key kw.Next q ∷ sign sg.Assign r ∷ ts) (write o e) rest
    a_free : {o : Occ} {p q : Span} {rest : List Token}
        → SpellsStatement (key kw.Free p ∷ named o ∷ sign sg.Semicolon q ∷ rest) (free o) rest
    bare_call : {f : Occ} {p q : Span} {ts rest : List Token} {es : List Expr}
        → SpellsValues sg.ParenClose ts es (sign sg.Semicolon q ∷ rest)
        → SpellsStatement (named f ∷ sign sg.ParenOpen p ∷ ts) (call [] f es) rest
    a_call : {f : Occ} {p q : Span} {ts us rest : List Token} {xs : List Occ} {es : List Expr}
        → SpellsTargets ts xs (named f ∷ sign sg.ParenOpen p ∷ us)
        → SpellsValues sg.ParenClose us es (sign sg.Semicolon q ∷ rest)
        → SpellsStatement ts (call xs f es) rest
    an_if : {p q r c : Span} {ts us rest : List Token} {t : Cond} {a : Statements}
        → SpellsCond true ts t (sign sg.ParenClose r ∷ us) → SpellsBlock us a c rest → NoKey kw.Else rest
        → SpellsStatement (key kw.If p ∷ sign sg.ParenOpen q ∷ ts) (if t a c no_statements c) rest
    an_if_else : {p q r s c d : Span} {ts us vs rest : List Token} {t : Cond} {a b : Statements}
        → SpellsCond true ts t (sign sg.ParenClose r ∷ us) → SpellsBlock us a c (key kw.Else s ∷ vs)
        → SpellsBlock vs b d rest
        → SpellsStatement (key kw.If p ∷ sign sg.ParenOpen q ∷ ts) (if t a c b d) rest
    a_while : {p q r c : Span} {ts us vs rest : List Token} {t : Cond} {i : Assertion} {a : Statements}
        → SpellsCond true ts t (sign sg.ParenClose r ∷ us) → SpellsClause kw.Invariant us i vs → SpellsBlock vs a c rest
        → SpellsStatement (key kw.While p ∷ sign sg.ParenOpen q ∷ ts) (while p t i a c) rest
    a_return : {p : Span} {ts rest : List Token} {es : List Expr}
        → SpellsValues sg.Semicolon ts es rest → SpellsStatement (key kw.Return p ∷ ts) (return p es) rest

  -- statements between braces, with the place of the last brace
  pub data SpellsBlock : List Token → Statements → Span → List Token → Type 0 where
    a_block : {p c : Span} {ts rest : List Token} {a : Statements} → SpellsStatements ts a c rest
        → SpellsBlock (sign sg.BraceOpen p ∷ ts) a c rest

  pub data SpellsStatements : List Token → Statements → Span → List Token → Type 0 where
    no_more : {c : Span} {rest : List Token} → SpellsStatements (sign sg.BraceClose c ∷ rest) no_statements c rest
    one_more : {c : Span} {ts us rest : List Token} {s : Statement} {a : Statements}
        → SpellsStatement ts s us → SpellsStatements us a c rest → SpellsStatements ts (statement_first s a) c rest

-- names with commas between them, and then `: Node ;`
pub data SpellsLocals : List Token → List Occ → List Token → Type 0 where
  last_local : {o : Occ} {p q r : Span} {rest : List Token}
      → SpellsLocals (named o ∷ sign sg.Colon p ∷ key kw.Node q ∷ sign sg.Semicolon r ∷ rest) (o ∷ []) rest
  next_local : {o : Occ} {p : Span} {ts rest : List Token} {l : List Occ} → SpellsLocals ts l rest
      → SpellsLocals (named o ∷ sign sg.Comma p ∷ ts) (o ∷ l) rest

-- declarations and then statements, until the last brace
pub data SpellsOpenBody : List Token → Body → List Token → Type 0 where
  no_locals : {c : Span} {ts rest : List Token} {a : Statements}
      → SpellsStatements ts a c rest → SpellsOpenBody ts (record { locals = []; statements = a; close = c }) rest
  some_locals : {p c : Span} {ts us rest : List Token} {xs ys : List Occ} {a : Statements}
      → SpellsLocals ts xs us → SpellsOpenBody us (record { locals = ys; statements = a; close = c }) rest
      → SpellsOpenBody (key kw.Var p ∷ ts) (record { locals = xs ++ ys; statements = a; close = c }) rest

-- parameters with commas between them, and then the closing bracket
pub data SpellsParams : List Token → List Occ → List Token → Type 0 where
  last_param : {o : Occ} {p q r : Span} {rest : List Token}
      → SpellsParams (named o ∷ sign sg.Colon p ∷ key kw.Node q ∷ sign sg.ParenClose r ∷ rest) (o ∷ []) rest
  next_param : {o : Occ} {p q r : Span} {ts rest : List Token} {l : List Occ}
      → SpellsParams ts l rest → SpellsParams (named o ∷ sign sg.Colon p ∷ key kw.Node q ∷ sign sg.Comma r ∷ ts) (o ∷ l)
      rest

-- what comes after the opening bracket: no parameters or some, and the closing bracket
pub data SpellsHeader : List Token → List Occ → List Token → Type 0 where
  no_params : {p : Span} {rest : List Token} → SpellsHeader (sign sg.ParenClose p ∷ rest) [] rest
  params : {ts rest : List Token} {l : List Occ} → SpellsParams ts l rest → SpellsHeader ts l rest

-- `returns` and the results in brackets, or nothing
pub data SpellsResults : List Token → List Occ → List Token → Type 0 where
  no_results : {rest : List Token} → NoKey kw.Returns rest → SpellsResults rest [] rest
  results : {p q : Span} {ts rest : List Token} {l : List Occ} → SpellsHeader ts l rest
      → SpellsResults (key kw.Returns p ∷ sign sg.ParenOpen q ∷ ts) l rest

-- a semicolon in the place of a body, or a body
pub data SpellsBody : List Token → Option Body → Span → List Token → Type 0 where
  no_body : {p : Span} {rest : List Token} → SpellsBody (sign sg.Semicolon p ∷ rest) None p rest
  a_body : {p : Span} {ts rest : List Token} {b : Body} → SpellsOpenBody ts b rest
      → SpellsBody (sign sg.BraceOpen p ∷ ts) (Some b) b.close rest

pub data SpellsProcedure : List Token → Procedure → List Token → Type 0 where
  a_procedure : {f : Occ} {p q c : Span} {ts us vs ws zs rest : List Token} {xs ys : List Occ} {x : Assertion}
      {l : List Assertion} {b : Option Body}
      → SpellsHeader ts xs us → SpellsResults us ys vs → SpellsClause kw.Requires vs x ws → SpellsEnsures ws l zs
      → SpellsBody zs b c rest
      → SpellsProcedure (key kw.Procedure p ∷ named f ∷ sign sg.ParenOpen q ∷ ts)
      (record { name = f; parameters = xs; results = ys; needs = x; gives = l; body = b; close = c }) rest

pub data SpellsProcedures : List Token → List Procedure → Type 0 where
  no_procedures : SpellsProcedures [] []
  one_procedure : {ts us : List Token} {p : Procedure} {ps : List Procedure} → SpellsProcedure ts p us
      → SpellsProcedures us ps → SpellsProcedures ts (p ∷ ps)

-- a word where a name or one reserved word may stand
pub data SpellsWord : Keyword → List ℕ → List Token → Occ → List Token → Type 0 where
  by_name : {k : Keyword} {text : List ℕ} {o : Occ} {rest : List Token} → SpellsWord k text (named o ∷ rest) o rest
  by_key : {k : Keyword} {text : List ℕ} {p : Span} {rest : List Token}
      → SpellsWord k text (key k p ∷ rest) (record { name = text; span = p }) rest

-- fields, and then the brace that ends the struct
pub data SpellsFields : List Token → List Field → Span → List Token → Type 0 where
  no_fields : {c : Span} {rest : List Token} → SpellsFields (sign sg.BraceClose c ∷ rest) [] c rest
  one_field : {p q r c : Span} {ts us vs rest : List Token} {o k : Occ} {l : List Field}
      → SpellsWord kw.Next (codes "next") ts o (sign sg.Colon q ∷ us)
      → SpellsWord kw.Node (codes "Node") us k (sign sg.Semicolon r ∷ vs) → SpellsFields vs l c rest
      → SpellsFields (key kw.Var p ∷ ts) (record { name = o; kind = k.name } ∷ l) c rest

pub data SpellsProgram : List Token → Program → Type 0 where
  a_program : {p q r c : Span} {ts us : List Token} {fs : List Field} {ps : List Procedure}
      → SpellsFields ts fs c us → SpellsProcedures us ps
      → SpellsProgram (key kw.Struct p ∷ key kw.Node q ∷ sign sg.BraceOpen r ∷ ts)
      (record { fields = fs; close = c; procedures = ps })

-- the text spells the program
abbrev pub Spells : List ℕ → Program → Type 0
Spells text p = (ts : List Token) × HasTokens text ts × SpellsProgram ts p
