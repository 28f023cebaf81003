-- What a text can spell: names are words, reads stand only where they may, and lists have two members or more.
use Rattle.std.proofs.Common.{◌≡◌, ℕ, List, [], ◌∷◌, ◌++◌, Bool, true, false, Option, Some, None, codes, refl, sym, inl}
use Rattle.std.proofs.Common.{inr, ◌⊎◌, subst}
use Rattle.gh_base.specs.declared.place.Span.{Span}
use Rattle.gh_ast.specs.declared.Occ.{Occ}
use Rattle.gh_ast.specs.declared.Operand.{Operand}
use Rattle.gh_ast.specs.declared.Operand.TheVariants as operand_is
use Rattle.gh_ast.specs.declared.Expr.{Expr}
use Rattle.gh_ast.specs.declared.Expr.TheVariants as expr_is
use Rattle.gh_ast.specs.declared.Field.{Field}
use Rattle.gh_ast.specs.declared.sign.Sign.{Sign}
use Rattle.gh_ast.specs.declared.sign.Keyword.{Keyword}
use Rattle.gh_ast.specs.declared.sign.Keyword.TheVariants as kw
use Rattle.gh_ast.specs.Plain.{Cond, compare, negation, conjunction, disjunction, Conds, no_conds, cond_first}
use Rattle.gh_ast.specs.Plain.{Assertion, empty, comparison, points_to, cell, segment, star, cases, Assertions}
use Rattle.gh_ast.specs.Plain.{no_assertions, assertion_first, Statement, set, new, write, free, call, if, while}
use Rattle.gh_ast.specs.Plain.{return, Statements, no_statements, statement_first, Body, Procedure, Program}
use Rattle.gh_ast.specs.Tokens.{Token, named, key, sign, keyword_text, IsPiece, a_blank, a_name, a_keyword, a_sign}
use Rattle.gh_ast.specs.Tokens.{IsTokens, nothing, piece}
use Rattle.gh_ast.specs.TokenLaws.{IsNameWord}
use Rattle.gh_ast.specs.WellFormed.{AreManyConds, AreManyAssertions}
use Rattle.gh_ast.specs.Grammar as g

abbrev pub GoodOcc : Occ → Type 0
GoodOcc o = IsNameWord o.name

abbrev pub GoodOperand : Operand → Type 0
GoodOperand (operand_is.Null p) = Unit {0}
GoodOperand (operand_is.Var o) = GoodOcc o

abbrev pub GoodExpr : Bool → Expr → Type 0
GoodExpr reads (expr_is.Plain o) = GoodOperand o
GoodExpr reads (expr_is.Read o) = (reads ≡ true) × GoodOcc o

abbrev pub AllGood : {A : Type 0} → (A → Type 0) → List A → Type 0
AllGood P [] = Unit {0}
AllGood P (x ∷ xs) = P x × AllGood P xs

abbrev mutual
  pub GoodTest : Bool → Cond → Type 0
  GoodTest reads (compare l e r) = GoodExpr reads l × GoodExpr reads r
  GoodTest reads (negation t) = GoodTest reads t
  GoodTest reads (conjunction ts) = AreManyConds ts × GoodTests reads ts
  GoodTest reads (disjunction ts) = AreManyConds ts × GoodTests reads ts

  pub GoodTests : Bool → Conds → Type 0
  GoodTests reads no_conds = Unit {0}
  GoodTests reads (cond_first t ts) = GoodTest reads t × GoodTests reads ts

abbrev mutual
  pub GoodFormula : Assertion → Type 0
  GoodFormula empty = Unit {0}
  GoodFormula (comparison l e r) = GoodOperand l × GoodOperand r
  GoodFormula (points_to o y) = GoodOcc o × GoodOperand y
  GoodFormula (cell o) = GoodOcc o
  GoodFormula (segment x y) = GoodOperand x × GoodOperand y
  GoodFormula (star l) = AreManyAssertions l × GoodFormulas l
  GoodFormula (cases t x y) = GoodTest false t × GoodFormula x × GoodFormula y

  pub GoodFormulas : Assertions → Type 0
  GoodFormulas no_assertions = Unit {0}
  GoodFormulas (assertion_first x l) = GoodFormula x × GoodFormulas l

abbrev pub SomeGood : List Expr → Type 0
SomeGood es = AllGood (GoodExpr true) es

abbrev mutual
  pub GoodStatement : Statement → Type 0
  GoodStatement (set o e) = GoodOcc o × GoodExpr true e
  GoodStatement (new o) = GoodOcc o
  GoodStatement (write o e) = GoodOcc o × GoodExpr true e
  GoodStatement (free o) = GoodOcc o
  GoodStatement (call xs f es) = AllGood GoodOcc xs × GoodOcc f × SomeGood es
  GoodStatement (if t a c b d) = GoodTest true t × GoodStatements a × GoodStatements b
  GoodStatement (while p t i a c) = GoodTest true t × GoodFormula i × GoodStatements a
  GoodStatement (return p es) = SomeGood es

  pub GoodStatements : Statements → Type 0
  GoodStatements no_statements = Unit {0}
  GoodStatements (statement_first s a) = GoodStatement s × GoodStatements a

abbrev pub GoodToken : Token → Type 0
GoodToken (named o) = GoodOcc o
GoodToken (key k p) = Unit {0}
GoodToken (sign s p) = Unit {0}

abbrev pub AreGood : List Token → Type 0
AreGood [] = Unit {0}
AreGood (t ∷ ts) = GoodToken t × AreGood ts

piece_is_good : (p : Span) (w r : List ℕ) (us ts : List Token) → IsPiece p w r us → AreGood ts → AreGood (us ++ ts)
piece_is_good p w r us ts (a_blank b i h) more = more
piece_is_good p w r us ts (a_name word ends unreserved) more = (record { word = word; free = unreserved }, more)
piece_is_good p w r us ts (a_keyword k i ends) more = (tt, more)
piece_is_good p w r us ts (a_sign s i l) more = (tt, more)

pub tokens_are_good : (p q : Span) (text rest : List ℕ) (ts : List Token) → IsTokens p text ts q rest → AreGood ts
tokens_are_good p q text rest ts nothing = tt
tokens_are_good p q text rest ts (piece {w} {rest = after} {us} {ts = more} e h last f) =
    subst AreGood (sym f) (piece_is_good p w after us more h (tokens_are_good _ q after rest more last))

pub operand_is_good : {ts rest : List Token} {o : Operand} → g.SpellsOperand ts o rest → AreGood ts
    → GoodOperand o × AreGood rest
operand_is_good g.null_operand h = (tt, h.1)
operand_is_good g.variable h = (h.0, h.1)

pub expr_is_good : {reads : Bool} {ts rest : List Token} {e : Expr} → g.SpellsExpr reads ts e rest → AreGood ts
    → GoodExpr reads e × AreGood rest
expr_is_good (g.plain s n) h = operand_is_good s h
expr_is_good g.read h = ((refl, h.0), h.1.1.1)

pub exprs_are_good : {close : Sign} {ts rest : List Token} {es : List Expr} → g.SpellsExprs close ts es rest
    → AreGood ts → SomeGood es × AreGood rest
exprs_are_good (g.last_expr s) h = let a = expr_is_good s h in ((a.0, tt), a.1.1)
exprs_are_good (g.next_expr s l) h = let a = expr_is_good s h in let b = exprs_are_good l a.1.1 in ((a.0, b.0), b.1)

pub values_are_good : {close : Sign} {ts rest : List Token} {es : List Expr} → g.SpellsValues close ts es rest
    → AreGood ts → SomeGood es × AreGood rest
values_are_good g.no_values h = (tt, h.1)
values_are_good (g.some_values l) h = exprs_are_good l h

pub some_lits : {reads : Bool} {ts rest : List Token} {l : Conds} → g.SpellsLits reads ts l rest → (t : Cond)
    → AreManyConds (cond_first t l)
some_lits (g.last_lit s n) t = tt
some_lits (g.next_lit s l) t = tt

pub some_conjs : {reads : Bool} {ts rest : List Token} {l : Conds} → g.SpellsConjs reads ts l rest → (t : Cond)
    → AreManyConds (cond_first t l)
some_conjs (g.last_conj s n) t = tt
some_conjs (g.next_conj s l) t = tt

pub some_items : {ts rest : List Token} {l : Assertions} → g.SpellsItems ts l rest → (x : Assertion)
    → AreManyAssertions (assertion_first x l)
some_items (g.last_item s n) x = tt
some_items (g.next_item s l) x = tt

mutual
  pub lit_is_good : {reads : Bool} {ts rest : List Token} {t : Cond} → g.SpellsLit reads ts t rest → AreGood ts
      → GoodTest reads t × AreGood rest
  lit_is_good (g.negated s) h = let a = test_is_good s h.1.1 in (a.0, a.1.1)
  lit_is_good (g.bracketed s) h = let a = test_is_good s h.1 in (a.0, a.1.1)
  lit_is_good (g.equated l r) h = let a = expr_is_good l h in let b = expr_is_good r a.1.1 in ((a.0, b.0), b.1)
  lit_is_good (g.distinguished l r) h = let a = expr_is_good l h in let b = expr_is_good r a.1.1 in ((a.0, b.0), b.1)

  pub conj_is_good : {reads : Bool} {ts rest : List Token} {t : Cond} → g.SpellsConj reads ts t rest → AreGood ts
      → GoodTest reads t × AreGood rest
  conj_is_good (g.one_lit s n) h = lit_is_good s h
  conj_is_good (g.lits {t} s l) h = let a = lit_is_good s h in let b = lits_are_good l a.1.1 in
      ((some_lits l t, (a.0, b.0)), b.1)

  pub lits_are_good : {reads : Bool} {ts rest : List Token} {l : Conds} → g.SpellsLits reads ts l rest → AreGood ts
      → GoodTests reads l × AreGood rest
  lits_are_good (g.last_lit s n) h = let a = lit_is_good s h in ((a.0, tt), a.1)
  lits_are_good (g.next_lit s l) h = let a = lit_is_good s h in let b = lits_are_good l a.1.1 in ((a.0, b.0), b.1)

  pub test_is_good : {reads : Bool} {ts rest : List Token} {t : Cond} → g.SpellsCond reads ts t rest → AreGood ts
      → GoodTest reads t × AreGood rest
  test_is_good (g.one_conj s n) h = conj_is_good s h
  test_is_good (g.conjs {t} s l) h = let a = conj_is_good s h in let b = conjs_are_good l a.1.1 in
      ((some_conjs l t, (a.0, b.0)), b.1)

  pub conjs_are_good : {reads : Bool} {ts rest : List Token} {l : Conds} → g.SpellsConjs reads ts l rest → AreGood ts
      → GoodTests reads l × AreGood rest
  conjs_are_good (g.last_conj s n) h = let a = conj_is_good s h in ((a.0, tt), a.1)
  conjs_are_good (g.next_conj s l) h = let a = conj_is_good s h in let b = conjs_are_good l a.1.1 in ((a.0, b.0), b.1)

mutual
  pub item_is_good : {ts rest : List Token} {x : Assertion} → g.SpellsItem ts x rest → AreGood ts
      → GoodFormula x × AreGood rest
  item_is_good g.emp h = (tt, h.1)
  item_is_good g.acc h = (h.1.1.0, h.1.1.1.1)
  item_is_good (g.lseg x y) h = let a = operand_is_good x h.1.1 in let b = operand_is_good y a.1.1 in
      ((a.0, b.0), b.1.1)
  item_is_good (g.pointed y) h = let a = operand_is_good y h.1.1.1.1 in ((h.0, a.0), a.1)
  item_is_good (g.same x y) h = let a = operand_is_good x h in let b = operand_is_good y a.1.1 in ((a.0, b.0), b.1)
  item_is_good (g.different x y) h = let a = operand_is_good x h in let b = operand_is_good y a.1.1 in ((a.0, b.0), b.1)
  item_is_good (g.by_cases t x y) h =
      let a = test_is_good t h.1.1 in let b = assertion_is_good x a.1.1.1 in let d = assertion_is_good y b.1.1.1.1 in
      ((a.0, b.0, d.0), d.1.1)
  item_is_good (g.in_brackets x) h = let a = assertion_is_good x h.1 in (a.0, a.1.1)

  pub assertion_is_good : {ts rest : List Token} {x : Assertion} → g.SpellsAssertion ts x rest → AreGood ts
      → GoodFormula x × AreGood rest
  assertion_is_good (g.one_item s n) h = item_is_good s h
  assertion_is_good (g.items {x} s l) h = let a = item_is_good s h in let b = items_are_good l a.1.1 in
      ((some_items l x, (a.0, b.0)), b.1)

  pub items_are_good : {ts rest : List Token} {l : Assertions} → g.SpellsItems ts l rest → AreGood ts
      → GoodFormulas l × AreGood rest
  items_are_good (g.last_item s n) h = let a = item_is_good s h in ((a.0, tt), a.1)
  items_are_good (g.next_item s l) h = let a = item_is_good s h in let b = items_are_good l a.1.1 in ((a.0, b.0), b.1)

-- one alternative or more
abbrev pub GoodAlternatives : List Assertion → Type 0
GoodAlternatives [] = ⊥
GoodAlternatives (f ∷ fs) = GoodFormula f × AllGood GoodFormula fs

all_of_them : (fs : List Assertion) → GoodAlternatives fs → AllGood GoodFormula fs
all_of_them [] h = tt
all_of_them (f ∷ fs) h = h

pub clause_is_good : {k : Keyword} {ts rest : List Token} {x : Assertion} → g.SpellsClause k ts x rest → AreGood ts
    → GoodFormula x × AreGood rest
clause_is_good (g.no_clause n) h = (tt, h)
clause_is_good (g.a_clause s) h = assertion_is_good s h.1

alternatives_are_good : {ts rest : List Token} {l : List Assertion} → g.SpellsAlternatives ts l rest → AreGood ts
    → GoodAlternatives l × AreGood rest
alternatives_are_good (g.last_alternative s n) h = let a = assertion_is_good s h in ((a.0, tt), a.1)
alternatives_are_good (g.next_alternative s l) h = let a = assertion_is_good s h in
    let b = alternatives_are_good l a.1.1 in ((a.0, all_of_them _ b.0), b.1)

ensures_are_good : {ts rest : List Token} {l : List Assertion} → g.SpellsEnsures ts l rest → AreGood ts
    → GoodAlternatives l × AreGood rest
ensures_are_good (g.no_clause n) h = ((tt, tt), h)
ensures_are_good (g.a_clause s) h = alternatives_are_good s h.1

pub targets_are_good : {ts rest : List Token} {l : List Occ} → g.SpellsTargets ts l rest → AreGood ts
    → AllGood GoodOcc l × AreGood rest
targets_are_good g.last_target h = ((h.0, tt), h.1.1)
targets_are_good (g.next_target l) h = let a = targets_are_good l h.1.1 in ((h.0, a.0), a.1)

mutual
  pub statement_is_good : {ts rest : List Token} {s : Statement} → g.SpellsStatement ts s rest → AreGood ts
      → GoodStatement s × AreGood rest
  statement_is_good (g.a_set e) h = let a = expr_is_good e h.1.1 in ((h.0, a.0), a.1.1)
  statement_is_good g.a_new h = (h.0, h.1.1.1.1.1)
  statement_is_good (g.a_write e) h = let a = expr_is_good e h.1.1.1.1 in ((h.0, a.0), a.1.1)
  statement_is_good g.a_free h = (h.1.0, h.1.1.1)
  statement_is_good (g.bare_call v) h = let a = values_are_good v h.1.1 in ((tt, h.0, a.0), a.1.1)
  statement_is_good (g.a_call l v) h = let a = targets_are_good l h in let b = values_are_good v a.1.1.1 in
      ((a.0, a.1.0, b.0), b.1.1)
  statement_is_good (g.an_if t a n) h = let x = test_is_good t h.1.1 in let y = block_is_good a x.1.1 in
      ((x.0, y.0, tt), y.1)
  statement_is_good (g.an_if_else t a b) h = let x = test_is_good t h.1.1 in let y = block_is_good a x.1.1 in
      let z = block_is_good b y.1.1 in ((x.0, y.0, z.0), z.1)
  statement_is_good (g.a_while t i a) h = let x = test_is_good t h.1.1 in let y = clause_is_good i x.1.1 in
      let z = block_is_good a y.1 in ((x.0, y.0, z.0), z.1)
  statement_is_good (g.a_return v) h = values_are_good v h.1

  pub block_is_good : {ts rest : List Token} {a : Statements} {c : Span} → g.SpellsBlock ts a c rest → AreGood ts
      → GoodStatements a × AreGood rest
  block_is_good (g.a_block l) h = statements_are_good l h.1

  pub statements_are_good : {ts rest : List Token} {a : Statements} {c : Span} → g.SpellsStatements ts a c rest
      → AreGood ts → GoodStatements a × AreGood rest
  statements_are_good g.no_more h = (tt, h.1)
  statements_are_good (g.one_more s l) h = let a = statement_is_good s h in let b = statements_are_good l a.1 in
      ((a.0, b.0), b.1)

abbrev pub GoodInside : Body → Type 0
GoodInside b = AllGood GoodOcc b.locals × GoodStatements b.statements

abbrev pub GoodBody : Option Body → Type 0
GoodBody None = Unit {0}
GoodBody (Some b) = GoodInside b

-- one alternative
pub record GoodProcedure (p : Procedure) : Type 0 where
  pub name : GoodOcc p.name
  pub parameters : AllGood GoodOcc p.parameters
  pub results : AllGood GoodOcc p.results
  pub needs : GoodFormula p.needs
  pub gives : GoodAlternatives p.gives
  pub body : GoodBody p.body

-- a word of a field: a name, or the one reserved word
abbrev pub GoodWord : Keyword → List ℕ → Type 0
GoodWord k w = IsNameWord w ⊎ (w ≡ keyword_text k)

pub record GoodField (f : Field) : Type 0 where
  pub name : GoodWord kw.Next f.name.name
  pub kind : GoodWord kw.Node f.kind

pub record GoodProgram (p : Program) : Type 0 where
  pub fields : AllGood GoodField p.fields
  pub procedures : AllGood GoodProcedure p.procedures

both_good : {A : Type 0} (P : A → Type 0) (xs ys : List A) → AllGood P xs → AllGood P ys → AllGood P (xs ++ ys)
both_good P [] ys a b = b
both_good P (x ∷ xs) ys a b = (a.0, both_good P xs ys a.1 b)

locals_are_good : {ts rest : List Token} {l : List Occ} → g.SpellsLocals ts l rest → AreGood ts
    → AllGood GoodOcc l × AreGood rest
locals_are_good g.last_local h = ((h.0, tt), h.1.1.1.1)
locals_are_good (g.next_local l) h = let a = locals_are_good l h.1.1 in ((h.0, a.0), a.1)

inside_is_good : {ts rest : List Token} {b : Body} → g.SpellsOpenBody ts b rest → AreGood ts
    → GoodInside b × AreGood rest
inside_is_good (g.no_locals l) h = let a = statements_are_good l h in ((tt, a.0), a.1)
inside_is_good (g.some_locals {xs} {ys} l i) h =
    let a = locals_are_good l h.1 in let b = inside_is_good i a.1 in ((both_good GoodOcc xs ys a.0 b.0.0, b.0.1), b.1)

params_are_good : {ts rest : List Token} {l : List Occ} → g.SpellsParams ts l rest → AreGood ts
    → AllGood GoodOcc l × AreGood rest
params_are_good g.last_param h = ((h.0, tt), h.1.1.1.1)
params_are_good (g.next_param l) h = let a = params_are_good l h.1.1.1.1 in ((h.0, a.0), a.1)

header_is_good : {ts rest : List Token} {l : List Occ} → g.SpellsHeader ts l rest → AreGood ts
    → AllGood GoodOcc l × AreGood rest
header_is_good g.no_params h = (tt, h.1)
header_is_good (g.params l) h = params_are_good l h

results_are_good : {ts rest : List Token} {l : List Occ} → g.SpellsResults ts l rest → AreGood ts
    → AllGood GoodOcc l × AreGood rest
results_are_good (g.no_results n) h = (tt, h)
results_are_good (g.results l) h = header_is_good l h.1.1

body_is_good : {ts rest : List Token} {b : Option Body} {c : Span} → g.SpellsBody ts b c rest → AreGood ts
    → GoodBody b × AreGood rest
body_is_good g.no_body h = (tt, h.1)
body_is_good (g.a_body i) h = inside_is_good i h.1

procedure_is_good : {ts rest : List Token} {p : Procedure} → g.SpellsProcedure ts p rest → AreGood ts
    → GoodProcedure p × AreGood rest
procedure_is_good (g.a_procedure x y n e b) h =
    let a = header_is_good x h.1.1.1 in let r = results_are_good y a.1 in let c = clause_is_good n r.1 in
    let d = ensures_are_good e c.1 in let f = body_is_good b d.1 in
    (record { name = h.1.0; parameters = a.0; results = r.0; needs = c.0; gives = d.0; body = f.0 }, f.1)

procedures_are_good : {ts : List Token} {ps : List Procedure} → g.SpellsProcedures ts ps → AreGood ts
    → AllGood GoodProcedure ps
procedures_are_good g.no_procedures h = tt
procedures_are_good (g.one_procedure p l) h = let a = procedure_is_good p h in (a.0, procedures_are_good l a.1)

next_is_good : {ts rest : List Token} {o : Occ} → g.SpellsWord kw.Next (codes "next") ts o rest → AreGood ts
    → GoodWord kw.Next o.name × AreGood rest
next_is_good g.by_name h = (inl h.0, h.1)
next_is_good g.by_key h = (inr refl, h.1)

node_is_good : {ts rest : List Token} {o : Occ} → g.SpellsWord kw.Node (codes "Node") ts o rest → AreGood ts
    → GoodWord kw.Node o.name × AreGood rest
node_is_good g.by_name h = (inl h.0, h.1)
node_is_good g.by_key h = (inr refl, h.1)

fields_are_good : {ts rest : List Token} {l : List Field} {c : Span} → g.SpellsFields ts l c rest → AreGood ts
    → AllGood GoodField l × AreGood rest
fields_are_good g.no_fields h = (tt, h.1)
fields_are_good (g.one_field n k l) h =
    let a = next_is_good n h.1 in let b = node_is_good k a.1.1 in let d = fields_are_good l b.1.1 in
    ((record { name = a.0; kind = b.0 }, d.0), d.1)

pub program_is_good : {ts : List Token} {p : Program} → g.SpellsProgram ts p → AreGood ts → GoodProgram p
program_is_good (g.a_program f l) h = let a = fields_are_good f h.1.1.1 in
    record { fields = a.0; procedures = procedures_are_good l a.1 }
