-- The text of a program: its tokens with one space between two, and a line feed last.
use Rattle.std.specs.Prelude.{◌≡◌, ℕ, List, [], ◌∷◌, ◌++◌, Bool, true, false, cond, Option, Some, None}
use Rattle.std.specs.List.{flat_map}
use Rattle.std.specs.Str.{bytes_eq}
use Rattle.gh_base.specs.Texts.{line_end}
use Rattle.gh_ast.specs.declared.Occ.{Occ}
use Rattle.gh_ast.specs.declared.Operand.{Operand}
use Rattle.gh_ast.specs.declared.Operand.TheVariants as operand
use Rattle.gh_ast.specs.declared.Expr.{Expr}
use Rattle.gh_ast.specs.declared.Expr.TheVariants as expr
use Rattle.gh_ast.specs.declared.Field.{Field}
use Rattle.gh_ast.specs.declared.sign.Sign.{Sign}
use Rattle.gh_ast.specs.declared.sign.Sign.TheVariants as sg
use Rattle.gh_ast.specs.declared.sign.Keyword.{Keyword}
use Rattle.gh_ast.specs.declared.sign.Keyword.TheVariants as kw
use Rattle.gh_ast.specs.Plain.{Cond, compare, negation, conjunction, disjunction, Conds, no_conds, cond_first}
use Rattle.gh_ast.specs.Plain.{Assertion, empty, comparison, points_to, cell, segment, star, cases, Assertions}
use Rattle.gh_ast.specs.Plain.{no_assertions, assertion_first, Statement, set, new, write, free, call, if, while}
use Rattle.gh_ast.specs.Plain.{return, Statements, no_statements, statement_first, Body, Procedure, Program}
use Rattle.gh_ast.specs.Tokens.{Token, named, key, sign, sign_text, keyword_text}

-- a token without its place
pub data Lexeme : Type 0 where
  word : List ℕ → Lexeme
  reserved : Keyword → Lexeme
  mark : Sign → Lexeme

abbrev pub lexeme_of : Token → Lexeme
lexeme_of (named o) = word o.name
lexeme_of (key k p) = reserved k
lexeme_of (sign s p) = mark s

abbrev pub lexeme_text : Lexeme → List ℕ
lexeme_text (word w) = w
lexeme_text (reserved k) = keyword_text k
lexeme_text (mark s) = sign_text s

-- each token after a space
abbrev pub spaced : List Lexeme → List ℕ
spaced [] = []
spaced (l ∷ ls) = 32 ∷ lexeme_text l ++ spaced ls

-- the tokens were added to a text, each after a space
pub record Adds (before after : List ℕ) (ls : List Lexeme) : Type 0 where
  pub same : after ≡ before ++ spaced ls

-- one space between two tokens, and a line feed last
abbrev pub line_of : List Lexeme → List ℕ
line_of [] = line_end
line_of (l ∷ ls) = lexeme_text l ++ spaced ls ++ line_end

-- members, each after a sign; and members with a sign between two
abbrev pub followed : {A : Type 0} → (A → List Lexeme) → Sign → List A → List Lexeme
followed f s [] = []
followed f s (x ∷ xs) = mark s ∷ f x ++ followed f s xs

abbrev pub with_signs : {A : Type 0} → (A → List Lexeme) → Sign → List A → List Lexeme
with_signs f s [] = []
with_signs f s (x ∷ xs) = f x ++ followed f s xs

abbrev pub name_shown : Occ → List Lexeme
name_shown o = word o.name ∷ []

abbrev pub operand_shown : Operand → List Lexeme
operand_shown (operand.Null p) = reserved kw.Null ∷ []
operand_shown (operand.Var o) = word o.name ∷ []

abbrev pub expr_shown : Expr → List Lexeme
expr_shown (expr.Plain o) = operand_shown o
expr_shown (expr.Read o) = word o.name ∷ mark sg.Dot ∷ reserved kw.Next ∷ []

abbrev pub equality : Bool → Sign
equality true = sg.Equal
equality false = sg.Unequal

-- between `(` and `)`
abbrev pub in_brackets : List Lexeme → List Lexeme
in_brackets ls = mark sg.ParenOpen ∷ ls ++ mark sg.ParenClose ∷ []

-- between `{` and `}`
abbrev pub in_braces : List Lexeme → List Lexeme
in_braces ls = mark sg.BraceOpen ∷ ls ++ mark sg.BraceClose ∷ []

-- in brackets where the truth value is true: a list inside a list stands in them
abbrev pub bracketed : Bool → List Lexeme → List Lexeme
bracketed true ls = in_brackets ls
bracketed false ls = ls

abbrev pub is_list : Cond → Bool
is_list (compare l e r) = false
is_list (negation t) = false
is_list (conjunction ts) = true
is_list (disjunction ts) = true

abbrev mutual
  pub cond_shown : Cond → List Lexeme
  cond_shown (compare l e r) = expr_shown l ++ mark (equality e) ∷ expr_shown r
  cond_shown (negation t) = mark sg.Bang ∷ mark sg.ParenOpen ∷ cond_shown t ++ mark sg.ParenClose ∷ []
  cond_shown (conjunction ts) = conds_shown sg.And ts
  cond_shown (disjunction ts) = conds_shown sg.Or ts

  pub conds_shown : Sign → Conds → List Lexeme
  conds_shown s no_conds = []
  conds_shown s (cond_first t ts) = bracketed (is_list t) (cond_shown t) ++ conds_followed s ts

  pub conds_followed : Sign → Conds → List Lexeme
  conds_followed s no_conds = []
  conds_followed s (cond_first t ts) = mark s ∷ bracketed (is_list t) (cond_shown t) ++ conds_followed s ts

abbrev pub is_star : Assertion → Bool
is_star empty = false
is_star (comparison l e r) = false
is_star (points_to o y) = false
is_star (cell o) = false
is_star (segment x y) = false
is_star (star l) = true
is_star (cases t x y) = false

abbrev mutual
  pub assertion_shown : Assertion → List Lexeme
  assertion_shown empty = reserved kw.Emp ∷ []
  assertion_shown (comparison l e r) = operand_shown l ++ mark (equality e) ∷ operand_shown r
  assertion_shown (points_to o y) = word o.name ∷ mark sg.Dot ∷ reserved kw.Next ∷ mark sg.Arrow ∷ operand_shown y
  assertion_shown (cell o) = reserved kw.Acc ∷ mark sg.ParenOpen ∷ word o.name ∷ mark sg.ParenClose ∷ []
  assertion_shown (segment x y) =
      reserved kw.Lseg ∷ mark sg.ParenOpen ∷ operand_shown x ++ mark sg.Comma ∷ operand_shown y
      ++ mark sg.ParenClose ∷ []
  assertion_shown (star l) = assertions_shown l
  assertion_shown (cases t x y) =
      reserved kw.If ∷ mark sg.ParenOpen ∷ cond_shown t ++ mark sg.ParenClose ∷ mark sg.BraceOpen ∷ assertion_shown x
      ++ mark sg.BraceClose ∷ reserved kw.Else ∷ mark sg.BraceOpen ∷ assertion_shown y ++ mark sg.BraceClose ∷ []

  pub assertions_shown : Assertions → List Lexeme
  assertions_shown no_assertions = []
  assertions_shown (assertion_first x l) = bracketed (is_star x) (assertion_shown x) ++ assertions_followed l

  pub assertions_followed : Assertions → List Lexeme
  assertions_followed no_assertions = []
  assertions_followed (assertion_first x l) =
      mark sg.Star ∷ bracketed (is_star x) (assertion_shown x) ++ assertions_followed l

-- a member of a star: in brackets where it is a star itself
abbrev pub member_shown : Assertion → List Lexeme
member_shown f = bracketed (is_star f) (assertion_shown f)

-- the targets of a call and `:=`, where there are some
abbrev pub targets_shown : List Occ → List Lexeme
targets_shown [] = []
targets_shown (x ∷ xs) = with_signs name_shown sg.Comma (x ∷ xs) ++ mark sg.Assign ∷ []

abbrev pub return_shown : List Expr → List Lexeme
return_shown es = reserved kw.Return ∷ with_signs expr_shown sg.Comma es ++ mark sg.Semicolon ∷ []

abbrev mutual
  pub statement_shown : Statement → List Lexeme
  statement_shown (set o e) = word o.name ∷ mark sg.Assign ∷ expr_shown e ++ mark sg.Semicolon ∷ []
  statement_shown (new o) = word o.name ∷ mark sg.Assign ∷ reserved kw.New ∷ reserved kw.Node ∷ mark sg.Semicolon ∷ []
  statement_shown (write o e) =
      word o.name ∷ mark sg.Dot ∷ reserved kw.Next ∷ mark sg.Assign ∷ expr_shown e ++ mark sg.Semicolon ∷ []
  statement_shown (free o) = reserved kw.Free ∷ word o.name ∷ mark sg.Semicolon ∷ []
  statement_shown (call xs f es) =
      targets_shown xs ++ word f.name ∷ mark sg.ParenOpen ∷ with_signs expr_shown sg.Comma es
      ++ mark sg.ParenClose ∷ mark sg.Semicolon ∷ []
  statement_shown (if t a c b d) =
      reserved kw.If ∷ mark sg.ParenOpen ∷ cond_shown t ++ mark sg.ParenClose ∷ mark sg.BraceOpen ∷ statements_shown a
      ++ mark sg.BraceClose ∷ []
      ++ otherwise_shown b
  statement_shown (while p t i a c) =
      reserved kw.While ∷ mark sg.ParenOpen ∷ cond_shown t
      ++ mark sg.ParenClose ∷ reserved kw.Invariant ∷ assertion_shown i
      ++ mark sg.BraceOpen ∷ statements_shown a ++ mark sg.BraceClose ∷ []
  statement_shown (return p es) = return_shown es

  pub statements_shown : Statements → List Lexeme
  statements_shown no_statements = []
  statements_shown (statement_first s a) = statement_shown s ++ statements_shown a

  -- an empty block in the place of `else` is left out
  pub otherwise_shown : Statements → List Lexeme
  otherwise_shown no_statements = []
  otherwise_shown (statement_first s a) =
      reserved kw.Else ∷ mark sg.BraceOpen ∷ statement_shown s ++ statements_shown a ++ mark sg.BraceClose ∷ []

-- the reserved word where w is its text, else the word w: a field's name and its type may be `next` and `Node`
abbrev pub word_or : Keyword → List ℕ → Lexeme
word_or k w = cond (bytes_eq w (keyword_text k)) (reserved k) (word w)

abbrev pub field_shown : Field → List Lexeme
field_shown f =
    reserved kw.Var ∷ word_or kw.Next f.name.name ∷ mark sg.Colon ∷ word_or kw.Node f.kind ∷ mark sg.Semicolon ∷ []

abbrev pub parameter_shown : Occ → List Lexeme
parameter_shown o = word o.name ∷ mark sg.Colon ∷ reserved kw.Node ∷ []

abbrev pub results_shown : List Occ → List Lexeme
results_shown [] = []
results_shown (r ∷ rs) =
    reserved kw.Returns ∷ mark sg.ParenOpen ∷ with_signs parameter_shown sg.Comma (r ∷ rs) ++ mark sg.ParenClose ∷ []

-- all locals stand in one declaration, where there are some
abbrev pub locals_shown : List Occ → List Lexeme
locals_shown [] = []
locals_shown (o ∷ os) =
    reserved kw.Var ∷ with_signs name_shown sg.Comma (o ∷ os)
    ++ mark sg.Colon ∷ reserved kw.Node ∷ mark sg.Semicolon ∷ []

abbrev pub body_shown : Option Body → List Lexeme
body_shown None = mark sg.Semicolon ∷ []
body_shown (Some b) =
    mark sg.BraceOpen ∷ locals_shown b.locals ++ statements_shown b.statements ++ mark sg.BraceClose ∷ []

-- alternatives with `||` between two
abbrev pub alternatives_shown : List Assertion → List Lexeme
alternatives_shown = with_signs assertion_shown sg.Or

abbrev pub ensures_shown : List Assertion → List Lexeme
ensures_shown fs = reserved kw.Ensures ∷ alternatives_shown fs

-- a procedure's name and its parameters
abbrev pub head_shown : Occ → List Occ → List Lexeme
head_shown name parameters =
    reserved kw.Procedure ∷ word name.name ∷ in_brackets (with_signs parameter_shown sg.Comma parameters)

-- missing conditions are written as `emp`
abbrev pub procedure_shown : Procedure → List Lexeme
procedure_shown p =
    reserved kw.Procedure ∷ word p.name.name ∷ mark sg.ParenOpen ∷ with_signs parameter_shown sg.Comma p.parameters
    ++ mark sg.ParenClose ∷ []
    ++ results_shown p.results ++ reserved kw.Requires ∷ assertion_shown p.needs
    ++ reserved kw.Ensures ∷ alternatives_shown p.gives ++ body_shown p.body

abbrev pub program_shown : Program → List Lexeme
program_shown p =
    reserved kw.Struct ∷ reserved kw.Node ∷ mark sg.BraceOpen ∷ flat_map field_shown p.fields
    ++ mark sg.BraceClose ∷ flat_map procedure_shown p.procedures

abbrev pub program_text : Program → List ℕ
program_text p = line_of (program_shown p)
