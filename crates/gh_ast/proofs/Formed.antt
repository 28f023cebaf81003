-- What a text spells is well formed.
use Rattle.std.proofs.Common.{◌≤◌, List, [], length, Bool, Option, refl, arith}
use Rattle.std.specs.Prelude.{All}
use Rattle.std.proofs.lemmas.List.Elements.{All-nil, All-cons}
use Rattle.gh_base.specs.declared.place.Span.{Span}
use Rattle.gh_ast.specs.declared.Expr.{Expr}
use Rattle.gh_ast.specs.declared.sign.Keyword.{Keyword}
use Rattle.gh_ast.specs.Plain.{Cond, Conds, Assertion, empty, Assertions, Statement, Statements, Body, Procedure}
use Rattle.gh_ast.specs.Plain.{Program}
use Rattle.gh_ast.specs.Tokens.{Token}
use Rattle.gh_ast.specs.Grammar as g
use Rattle.gh_ast.specs.WellFormed.{MayStand, IsFormedCond, AreFormedConds, IsFormedAssertion, AreFormedAssertions}
use Rattle.gh_ast.specs.WellFormed.{IsFormedStatement, AreFormedStatements, IsFormedBody, IsFormedProcedure}
use Rattle.gh_ast.specs.WellFormed.{IsWellFormed}
use Rattle.gh_ast.proofs.Good.{some_lits, some_conjs, some_items}

expr_is_formed : {reads : Bool} {ts rest : List Token} {e : Expr} → g.SpellsExpr reads ts e rest → MayStand reads e
expr_is_formed (g.plain s n) = tt
expr_is_formed g.read = refl

mutual
  lit_is_formed : {reads : Bool} {ts rest : List Token} {t : Cond} → g.SpellsLit reads ts t rest → IsFormedCond reads t
  lit_is_formed (g.negated s) = test_is_formed s
  lit_is_formed (g.bracketed s) = test_is_formed s
  lit_is_formed (g.equated l r) = (expr_is_formed l, expr_is_formed r)
  lit_is_formed (g.distinguished l r) = (expr_is_formed l, expr_is_formed r)

  conj_is_formed : {reads : Bool} {ts rest : List Token} {t : Cond} → g.SpellsConj reads ts t rest
      → IsFormedCond reads t
  conj_is_formed (g.one_lit s n) = lit_is_formed s
  conj_is_formed (g.lits {t} s l) = (some_lits l t, (lit_is_formed s, lits_are_formed l))

  lits_are_formed : {reads : Bool} {ts rest : List Token} {l : Conds} → g.SpellsLits reads ts l rest
      → AreFormedConds reads l
  lits_are_formed (g.last_lit s n) = (lit_is_formed s, tt)
  lits_are_formed (g.next_lit s l) = (lit_is_formed s, lits_are_formed l)

  test_is_formed : {reads : Bool} {ts rest : List Token} {t : Cond} → g.SpellsCond reads ts t rest
      → IsFormedCond reads t
  test_is_formed (g.one_conj s n) = conj_is_formed s
  test_is_formed (g.conjs {t} s l) = (some_conjs l t, (conj_is_formed s, conjs_are_formed l))

  conjs_are_formed : {reads : Bool} {ts rest : List Token} {l : Conds} → g.SpellsConjs reads ts l rest
      → AreFormedConds reads l
  conjs_are_formed (g.last_conj s n) = (conj_is_formed s, tt)
  conjs_are_formed (g.next_conj s l) = (conj_is_formed s, conjs_are_formed l)

mutual
  item_is_formed : {ts rest : List Token} {x : Assertion} → g.SpellsItem ts x rest → IsFormedAssertion x
  item_is_formed g.emp = tt
  item_is_formed g.acc = tt
  item_is_formed (g.lseg x y) = tt
  item_is_formed (g.pointed y) = tt
  item_is_formed (g.same x y) = tt
  item_is_formed (g.different x y) = tt
  item_is_formed (g.by_cases t x y) = (test_is_formed t, assertion_is_formed x, assertion_is_formed y)
  item_is_formed (g.in_brackets x) = assertion_is_formed x

  assertion_is_formed : {ts rest : List Token} {x : Assertion} → g.SpellsAssertion ts x rest → IsFormedAssertion x
  assertion_is_formed (g.one_item s n) = item_is_formed s
  assertion_is_formed (g.items {x} s l) = (some_items l x, (item_is_formed s, items_are_formed l))

  items_are_formed : {ts rest : List Token} {l : Assertions} → g.SpellsItems ts l rest → AreFormedAssertions l
  items_are_formed (g.last_item s n) = (item_is_formed s, tt)
  items_are_formed (g.next_item s l) = (item_is_formed s, items_are_formed l)

clause_is_formed : {k : Keyword} {ts rest : List Token} {x : Assertion} → g.SpellsClause k ts x rest
    → IsFormedAssertion x
clause_is_formed (g.no_clause n) = tt
clause_is_formed (g.a_clause s) = assertion_is_formed s

abbrev AreFormed : List Assertion → Type 0
AreFormed l = (1 ≤ length l) × All IsFormedAssertion l

alternatives_are_formed : {ts rest : List Token} {l : List Assertion} → g.SpellsAlternatives ts l rest → AreFormed l
alternatives_are_formed (g.last_alternative {x = x} s n) =
    (omega arith, All-cons IsFormedAssertion x [] (assertion_is_formed s) (All-nil IsFormedAssertion))
alternatives_are_formed (g.next_alternative {x = x} {l = l} s m) =
    (omega arith, All-cons IsFormedAssertion x l (assertion_is_formed s) (alternatives_are_formed m).1)

ensures_are_formed : {ts rest : List Token} {l : List Assertion} → g.SpellsEnsures ts l rest → AreFormed l
ensures_are_formed (g.no_clause n) = (omega arith, All-cons IsFormedAssertion empty [] tt (All-nil IsFormedAssertion))
ensures_are_formed (g.a_clause s) = alternatives_are_formed s

mutual
  statement_is_formed : {ts rest : List Token} {s : Statement} → g.SpellsStatement ts s rest → IsFormedStatement s
  statement_is_formed (g.a_set e) = tt
  statement_is_formed g.a_new = tt
  statement_is_formed (g.a_write e) = tt
  statement_is_formed g.a_free = tt
  statement_is_formed (g.bare_call v) = tt
  statement_is_formed (g.a_call l v) = tt
  statement_is_formed (g.an_if t a n) = (test_is_formed t, block_is_formed a, tt)
  statement_is_formed (g.an_if_else t a b) = (test_is_formed t, block_is_formed a, block_is_formed b)
  statement_is_formed (g.a_while t i a) = (test_is_formed t, clause_is_formed i, block_is_formed a)
  statement_is_formed (g.a_return v) = tt

  block_is_formed : {ts rest : List Token} {a : Statements} {c : Span} → g.SpellsBlock ts a c rest
      → AreFormedStatements a
  block_is_formed (g.a_block l) = statements_are_formed l

  statements_are_formed : {ts rest : List Token} {a : Statements} {c : Span} → g.SpellsStatements ts a c rest
      → AreFormedStatements a
  statements_are_formed g.no_more = tt
  statements_are_formed (g.one_more s l) = (statement_is_formed s, statements_are_formed l)

inside_is_formed : {ts rest : List Token} {b : Body} → g.SpellsOpenBody ts b rest → AreFormedStatements b.statements
inside_is_formed (g.no_locals l) = statements_are_formed l
inside_is_formed (g.some_locals l i) = inside_is_formed i

body_is_formed : {ts rest : List Token} {b : Option Body} {c : Span} → g.SpellsBody ts b c rest → IsFormedBody b
body_is_formed g.no_body = tt
body_is_formed (g.a_body i) = inside_is_formed i

procedure_is_formed : {ts rest : List Token} {p : Procedure} → g.SpellsProcedure ts p rest → IsFormedProcedure p
procedure_is_formed (g.a_procedure x y n e b) =
    let l = ensures_are_formed e in
    record { needs = clause_is_formed n; some = l.0; gives = l.1; body = body_is_formed b }

procedures_are_formed : {ts : List Token} {ps : List Procedure} → g.SpellsProcedures ts ps → All IsFormedProcedure ps
procedures_are_formed g.no_procedures = All-nil IsFormedProcedure
procedures_are_formed (g.one_procedure {p} {ps} s l) =
    All-cons IsFormedProcedure p ps (procedure_is_formed s) (procedures_are_formed l)

pub program_is_formed : {ts : List Token} {p : Program} → g.SpellsProgram ts p → IsWellFormed p
program_is_formed (g.a_program f l) = procedures_are_formed l
