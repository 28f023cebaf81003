-- What is printed of a part that a text can spell are tokens.
use Rattle.std.proofs.Common.{ℕ, List, [], ◌∷◌, ◌++◌, Bool, true, false, Option, Some, None, sym, subst, inl, inr}
use Rattle.std.specs.List.{flat_map}
use Rattle.gh_ast.specs.declared.Occ.{Occ}
use Rattle.gh_ast.specs.declared.Operand.{Operand}
use Rattle.gh_ast.specs.declared.Operand.TheVariants as operand_is
use Rattle.gh_ast.specs.declared.Expr.{Expr}
use Rattle.gh_ast.specs.declared.Expr.TheVariants as expr_is
use Rattle.gh_ast.specs.declared.Field.{Field}
use Rattle.gh_ast.specs.declared.sign.Sign.{Sign}
use Rattle.gh_ast.specs.declared.sign.Sign.TheVariants as sg
use Rattle.gh_ast.specs.declared.sign.Keyword.{Keyword}
use Rattle.gh_ast.specs.declared.sign.Keyword.TheVariants as kw
use Rattle.gh_ast.specs.Plain.{Cond, compare, negation, conjunction, disjunction, Conds, no_conds, cond_first}
use Rattle.gh_ast.specs.Plain.{Assertion, empty, comparison, points_to, cell, segment, star, cases, Assertions}
use Rattle.gh_ast.specs.Plain.{no_assertions, assertion_first, Statement, set, new, write, free, call, if, while}
use Rattle.gh_ast.specs.Plain.{return, Statements, no_statements, statement_first, Body, Procedure, Program}
use Rattle.gh_ast.specs.Tokens.{first_place, cleared}
use Rattle.gh_ast.specs.TokenLaws.{IsLexeme, AreLexemes}
use Rattle.gh_ast.specs.Printed.{Lexeme, word, reserved, mark, followed, with_signs, name_shown, operand_shown}
use Rattle.gh_ast.specs.Printed.{expr_shown, equality, bracketed, is_list, cond_shown, conds_shown, conds_followed}
use Rattle.gh_ast.specs.Printed.{is_star, assertion_shown, assertions_shown, assertions_followed, targets_shown}
use Rattle.gh_ast.specs.Printed.{statement_shown, statements_shown, otherwise_shown, word_or, field_shown}
use Rattle.gh_ast.specs.Printed.{parameter_shown, results_shown, locals_shown, body_shown, alternatives_shown}
use Rattle.gh_ast.specs.Printed.{procedure_shown, program_shown}
use Rattle.gh_ast.specs.Bare.{ReadBack}
use Rattle.gh_ast.proofs.Good.{GoodOcc, GoodOperand, GoodExpr, AllGood, GoodTest, GoodTests, GoodFormula, GoodFormulas}
use Rattle.gh_ast.proofs.Good.{SomeGood, GoodStatement, GoodStatements, GoodBody, GoodAlternatives, GoodProcedure}
use Rattle.gh_ast.proofs.Good.{GoodWord, GoodField, GoodProgram, tokens_are_good, program_is_good}
use Rattle.gh_ast.proofs.ProgramsAgain.{free_word, key_word, program_again}
use Rattle.gh_ast.proofs.Relexing.{line_reads}

join : (a b : List Lexeme) → AreLexemes a → AreLexemes b → AreLexemes (a ++ b)
join [] b h k = k
join (l ∷ a) b h k = (h.0, join a b h.1 k)

abbrev Shows : {A : Type 0} → (A → List Lexeme) → A → Type 0
Shows f x = AreLexemes (f x)

followed_ok : {A : Type 0} (f : A → List Lexeme) (s : Sign) (xs : List A) → AllGood (Shows f) xs
    → AreLexemes (followed f s xs)
followed_ok f s [] h = tt
followed_ok f s (x ∷ xs) h = (tt, join (f x) (followed f s xs) h.0 (followed_ok f s xs h.1))

with_signs_ok : {A : Type 0} (f : A → List Lexeme) (s : Sign) (xs : List A) → AllGood (Shows f) xs
    → AreLexemes (with_signs f s xs)
with_signs_ok f s [] h = tt
with_signs_ok f s (x ∷ xs) h = join (f x) (followed f s xs) h.0 (followed_ok f s xs h.1)

each_ok : {A : Type 0} (f : A → List Lexeme) (xs : List A) → AllGood (Shows f) xs → AreLexemes (flat_map f xs)
each_ok f [] h = tt
each_ok f (x ∷ xs) h = join (f x) (flat_map f xs) h.0 (each_ok f xs h.1)

weaker : {A : Type 0} (P Q : A → Type 0) → ((x : A) → P x → Q x) → (xs : List A) → AllGood P xs → AllGood Q xs
weaker P Q f [] h = tt
weaker P Q f (x ∷ xs) h = (f x h.0, weaker P Q f xs h.1)

operand_ok : (o : Operand) → GoodOperand o → AreLexemes (operand_shown o)
operand_ok (operand_is.Null p) h = (tt, tt)
operand_ok (operand_is.Var o) h = (h, tt)

expr_ok : (reads : Bool) (e : Expr) → GoodExpr reads e → AreLexemes (expr_shown e)
expr_ok reads (expr_is.Plain o) h = operand_ok o h
expr_ok reads (expr_is.Read o) h = (h.1, (tt, (tt, tt)))

bracketed_ok : (b : Bool) (ls : List Lexeme) → AreLexemes ls → AreLexemes (bracketed b ls)
bracketed_ok true ls h = (tt, join ls (mark sg.ParenClose ∷ []) h (tt, tt))
bracketed_ok false ls h = h

abbrev AreTests : Conds → Type 0
AreTests no_conds = Unit {0}
AreTests (cond_first t ts) = AreLexemes (cond_shown t) × AreTests ts

more_ok : (s : Sign) (ts : Conds) → AreTests ts → AreLexemes (conds_followed s ts)
more_ok s no_conds h = tt
more_ok s (cond_first t ts) h = (
  tt,
  join (bracketed (is_list t) (cond_shown t)) (conds_followed s ts) (bracketed_ok (is_list t) (cond_shown t) h.0)
      (more_ok s ts h.1),
)

list_ok : (s : Sign) (ts : Conds) → AreTests ts → AreLexemes (conds_shown s ts)
list_ok s no_conds h = tt
list_ok s (cond_first t ts) h =
    join (bracketed (is_list t) (cond_shown t)) (conds_followed s ts) (bracketed_ok (is_list t) (cond_shown t) h.0)
    (more_ok s ts h.1)

mutual
  test_ok : (reads : Bool) (t : Cond) → GoodTest reads t → AreLexemes (cond_shown t)
  test_ok reads (compare l e r) h =
      join (expr_shown l) (mark (equality e) ∷ expr_shown r) (expr_ok reads l h.0) (tt, expr_ok reads r h.1)
  test_ok reads (negation t) h = (tt, (tt, join (cond_shown t) (mark sg.ParenClose ∷ []) (test_ok reads t h) (tt, tt)))
  test_ok reads (conjunction ts) h = list_ok sg.And ts (members_ok reads ts h.1)
  test_ok reads (disjunction ts) h = list_ok sg.Or ts (members_ok reads ts h.1)

  members_ok : (reads : Bool) (ts : Conds) → GoodTests reads ts → AreTests ts
  members_ok reads no_conds h = tt
  members_ok reads (cond_first t ts) h = (test_ok reads t h.0, members_ok reads ts h.1)

abbrev AreItemLexemes : Assertions → Type 0
AreItemLexemes no_assertions = Unit {0}
AreItemLexemes (assertion_first x l) = AreLexemes (assertion_shown x) × AreItemLexemes l

rest_ok : (l : Assertions) → AreItemLexemes l → AreLexemes (assertions_followed l)
rest_ok no_assertions h = tt
rest_ok (assertion_first x l) h = (
  tt,
  join (bracketed (is_star x) (assertion_shown x)) (assertions_followed l)
      (bracketed_ok (is_star x) (assertion_shown x) h.0) (rest_ok l h.1),
)

star_ok : (l : Assertions) → AreItemLexemes l → AreLexemes (assertions_shown l)
star_ok no_assertions h = tt
star_ok (assertion_first x l) h =
    join (bracketed (is_star x) (assertion_shown x)) (assertions_followed l)
    (bracketed_ok (is_star x) (assertion_shown x) h.0) (rest_ok l h.1)

cases_ok : (t x y : List Lexeme) → AreLexemes t → AreLexemes x → AreLexemes y
    → AreLexemes (reserved kw.If ∷ mark sg.ParenOpen ∷ t ++ mark sg.ParenClose ∷ mark sg.BraceOpen ∷ x
    ++ mark sg.BraceClose ∷ reserved kw.Else ∷ mark sg.BraceOpen ∷ y ++ mark sg.BraceClose ∷ [])
cases_ok t x y a b c =
    let one = t ++ mark sg.ParenClose ∷ mark sg.BraceOpen ∷ x in
    let two = one ++ mark sg.BraceClose ∷ reserved kw.Else ∷ mark sg.BraceOpen ∷ y in (
      tt,
      (
        tt,
        join two (mark sg.BraceClose ∷ [])
            (join one (mark sg.BraceClose ∷ reserved kw.Else ∷ mark sg.BraceOpen ∷ y)
            (join t (mark sg.ParenClose ∷ mark sg.BraceOpen ∷ x) a (tt, (tt, b))) (tt, (tt, (tt, c)))) (tt, tt),
      ),
    )

mutual
  formula_ok : (x : Assertion) → GoodFormula x → AreLexemes (assertion_shown x)
  formula_ok empty h = (tt, tt)
  formula_ok (comparison l e r) h =
      join (operand_shown l) (mark (equality e) ∷ operand_shown r) (operand_ok l h.0) (tt, operand_ok r h.1)
  formula_ok (points_to o y) h = (h.0, (tt, (tt, (tt, operand_ok y h.1))))
  formula_ok (cell o) h = (tt, (tt, (h, (tt, tt))))
  formula_ok (segment x y) h = (
    tt,
    (
      tt,
      join (operand_shown x ++ mark sg.Comma ∷ operand_shown y) (mark sg.ParenClose ∷ [])
          (join (operand_shown x) (mark sg.Comma ∷ operand_shown y) (operand_ok x h.0) (tt, operand_ok y h.1)) (tt, tt),
    ),
  )
  formula_ok (star l) h = star_ok l (items_ok l h.1)
  formula_ok (cases t x y) h =
      cases_ok (cond_shown t) (assertion_shown x) (assertion_shown y) (test_ok false t h.0) (formula_ok x h.1)
      (formula_ok y h.2)

  items_ok : (l : Assertions) → GoodFormulas l → AreItemLexemes l
  items_ok no_assertions h = tt
  items_ok (assertion_first x l) h = (formula_ok x h.0, items_ok l h.1)

exprs_ok : (es : List Expr) → SomeGood es → AreLexemes (with_signs expr_shown sg.Comma es)
exprs_ok es h = with_signs_ok expr_shown sg.Comma es (weaker (GoodExpr true) (Shows expr_shown) (expr_ok true) es h)

name_ok : (o : Occ) → GoodOcc o → AreLexemes (name_shown o)
name_ok o h = (h, tt)

names_ok : (xs : List Occ) → AllGood GoodOcc xs → AreLexemes (with_signs name_shown sg.Comma xs)
names_ok xs h = with_signs_ok name_shown sg.Comma xs (weaker GoodOcc (Shows name_shown) name_ok xs h)

parameter_ok : (o : Occ) → GoodOcc o → AreLexemes (parameter_shown o)
parameter_ok o h = (h, (tt, (tt, tt)))

parameters_ok : (xs : List Occ) → AllGood GoodOcc xs → AreLexemes (with_signs parameter_shown sg.Comma xs)
parameters_ok xs h =
    with_signs_ok parameter_shown sg.Comma xs (weaker GoodOcc (Shows parameter_shown) parameter_ok xs h)

targets_ok : (xs : List Occ) → AllGood GoodOcc xs → AreLexemes (targets_shown xs)
targets_ok [] h = tt
targets_ok (x ∷ xs) h =
    join (with_signs name_shown sg.Comma (x ∷ xs)) (mark sg.Assign ∷ []) (names_ok (x ∷ xs) h) (tt, tt)

closed_ok : (e : Expr) → GoodExpr true e → AreLexemes (expr_shown e ++ mark sg.Semicolon ∷ [])
closed_ok e h = join (expr_shown e) (mark sg.Semicolon ∷ []) (expr_ok true e h) (tt, tt)

otherwise_ok : (b : Statements) → AreLexemes (statements_shown b) → AreLexemes (otherwise_shown b)
otherwise_ok no_statements h = tt
otherwise_ok (statement_first s b) h =
    (tt, (tt, join (statements_shown (statement_first s b)) (mark sg.BraceClose ∷ []) h (tt, tt)))

choice_ok : (t a : List Lexeme) (b : Statements) → AreLexemes t → AreLexemes a → AreLexemes (statements_shown b)
    → AreLexemes (reserved kw.If ∷ mark sg.ParenOpen ∷ t ++ mark sg.ParenClose ∷ mark sg.BraceOpen ∷ a
    ++ mark sg.BraceClose ∷ [] ++ otherwise_shown b)
choice_ok t a b h k l =
    let one = t ++ mark sg.ParenClose ∷ mark sg.BraceOpen ∷ a in (
      tt,
      (
        tt,
        join (one ++ mark sg.BraceClose ∷ []) (otherwise_shown b)
            (join one (mark sg.BraceClose ∷ []) (join t (mark sg.ParenClose ∷ mark sg.BraceOpen ∷ a) h (tt, (tt, k)))
            (tt, tt)) (otherwise_ok b l),
      ),
    )

loop_ok : (t i a : List Lexeme) → AreLexemes t → AreLexemes i → AreLexemes a
    → AreLexemes (reserved kw.While ∷ mark sg.ParenOpen ∷ t ++ mark sg.ParenClose ∷ reserved kw.Invariant ∷ i
    ++ mark sg.BraceOpen ∷ a ++ mark sg.BraceClose ∷ [])
loop_ok t i a h k l =
    let one = t ++ mark sg.ParenClose ∷ reserved kw.Invariant ∷ i in (
      tt,
      (
        tt,
        join (one ++ mark sg.BraceOpen ∷ a) (mark sg.BraceClose ∷ [])
            (join one (mark sg.BraceOpen ∷ a) (join t (mark sg.ParenClose ∷ reserved kw.Invariant ∷ i) h (tt, (tt, k)))
            (tt, l)) (tt, tt),
      ),
    )

mutual
  statement_ok : (s : Statement) → GoodStatement s → AreLexemes (statement_shown s)
  statement_ok (set o e) h = (h.0, (tt, closed_ok e h.1))
  statement_ok (new o) h = (h, (tt, (tt, (tt, (tt, tt)))))
  statement_ok (write o e) h = (h.0, (tt, (tt, (tt, closed_ok e h.1))))
  statement_ok (free o) h = (tt, (h, (tt, tt)))
  statement_ok (call xs f es) h =
      join (targets_shown xs ++ word f.name ∷ mark sg.ParenOpen ∷ with_signs expr_shown sg.Comma es)
      (mark sg.ParenClose ∷ mark sg.Semicolon ∷ [])
      (join (targets_shown xs) (word f.name ∷ mark sg.ParenOpen ∷ with_signs expr_shown sg.Comma es) (targets_ok xs h.0)
      (h.1, (tt, exprs_ok es h.2))) (tt, (tt, tt))
  statement_ok (if t a c b d) h =
      choice_ok (cond_shown t) (statements_shown a) b (test_ok true t h.0) (statements_ok a h.1) (statements_ok b h.2)
  statement_ok (while p t i a c) h =
      loop_ok (cond_shown t) (assertion_shown i) (statements_shown a) (test_ok true t h.0) (formula_ok i h.1)
      (statements_ok a h.2)
  statement_ok (return p es) h =
      (tt, join (with_signs expr_shown sg.Comma es) (mark sg.Semicolon ∷ []) (exprs_ok es h) (tt, tt))

  statements_ok : (a : Statements) → GoodStatements a → AreLexemes (statements_shown a)
  statements_ok no_statements h = tt
  statements_ok (statement_first s a) h =
      join (statement_shown s) (statements_shown a) (statement_ok s h.0) (statements_ok a h.1)

word_ok : (k : Keyword) (w : List ℕ) → GoodWord k w → IsLexeme (word_or k w)
word_ok k w (inl h) = subst IsLexeme (sym (free_word k w h)) h
word_ok k w (inr h) = subst IsLexeme (sym (key_word k w h)) tt

field_ok : (f : Field) → GoodField f → AreLexemes (field_shown f)
field_ok f h = (tt, (word_ok kw.Next f.name.name h.name, (tt, (word_ok kw.Node f.kind h.kind, (tt, tt)))))

results_ok : (xs : List Occ) → AllGood GoodOcc xs → AreLexemes (results_shown xs)
results_ok [] h = tt
results_ok (x ∷ xs) h = (
  tt,
  (
    tt,
    join (with_signs parameter_shown sg.Comma (x ∷ xs)) (mark sg.ParenClose ∷ []) (parameters_ok (x ∷ xs) h)
        (tt, tt),
  ),
)

locals_ok : (xs : List Occ) → AllGood GoodOcc xs → AreLexemes (locals_shown xs)
locals_ok [] h = tt
locals_ok (x ∷ xs) h = (
  tt,
  join (with_signs name_shown sg.Comma (x ∷ xs)) (mark sg.Colon ∷ reserved kw.Node ∷ mark sg.Semicolon ∷ [])
      (names_ok (x ∷ xs) h) (tt, (tt, (tt, tt))),
)

body_ok : (b : Option Body) → GoodBody b → AreLexemes (body_shown b)
body_ok None h = (tt, tt)
body_ok (Some b) h = (
  tt,
  join (locals_shown b.locals ++ statements_shown b.statements) (mark sg.BraceClose ∷ [])
      (join (locals_shown b.locals) (statements_shown b.statements) (locals_ok b.locals h.0)
      (statements_ok b.statements h.1)) (tt, tt),
)

alternatives_ok : (fs : List Assertion) → GoodAlternatives fs → AreLexemes (alternatives_shown fs)
alternatives_ok [] h = absurd h
alternatives_ok (f ∷ fs) h = with_signs_ok assertion_shown sg.Or (f ∷ fs) (formula_ok f h.0, all_ok fs h.1)
  where
    all_ok : (l : List Assertion) → AllGood GoodFormula l → AllGood (λ x. AreLexemes (assertion_shown x)) l
    all_ok [] hs = tt
    all_ok (x ∷ l) hs = (formula_ok x hs.0, all_ok l hs.1)

procedure_ok : (p : Procedure) → GoodProcedure p → AreLexemes (procedure_shown p)
procedure_ok p h =
    let params = with_signs parameter_shown sg.Comma p.parameters in
    let a = params ++ mark sg.ParenClose ∷ [] in
    let b = a ++ results_shown p.results in
    let c = b ++ reserved kw.Requires ∷ assertion_shown p.needs in
    let d = c ++ reserved kw.Ensures ∷ alternatives_shown p.gives in (
      tt,
      (
        h.name,
        (
          tt,
          join d (body_shown p.body)
              (join c (reserved kw.Ensures ∷ alternatives_shown p.gives)
              (join b (reserved kw.Requires ∷ assertion_shown p.needs)
              (join a (results_shown p.results)
              (join params (mark sg.ParenClose ∷ []) (parameters_ok p.parameters h.parameters) (tt, tt))
              (results_ok p.results h.results))
              (tt, formula_ok p.needs h.needs))
              (tt, alternatives_ok p.gives h.gives))
              (body_ok p.body h.body),
        ),
      ),
    )

program_ok : (p : Program) → GoodProgram p → AreLexemes (program_shown p)
program_ok p h = (
  tt,
  (
    tt,
    (
      tt,
      join (flat_map field_shown p.fields) (mark sg.BraceClose ∷ flat_map procedure_shown p.procedures)
          (each_ok field_shown p.fields (weaker GoodField (Shows field_shown) field_ok p.fields h.fields)) (
            tt,
            each_ok procedure_shown p.procedures
                (weaker GoodProcedure (Shows procedure_shown) procedure_ok p.procedures h.procedures),
          ),
    ),
  ),
)

pub read_back : ReadBack
read_back text p (ts, has, spells) =
    let good = program_is_good spells (tokens_are_good first_place has.0 (cleared text) [] ts has.1) in
    let line = line_reads (program_shown p) (program_ok p good) in
    let again = program_again p good line.0 line.2 in
    (again.0, (line.0, line.1, again.1), again.2)
