-- Tokens that are those of a printed statement spell it, but for the places.
use Rattle.std.proofs.Common.{◌≡◌, List, [], ◌∷◌, ◌++◌, map, Bool, true, false, refl, sym, ◌∙◌, ap, subst, append_assoc}
use Rattle.std.proofs.lemmas.Bool.{both_ways}
use Rattle.gh_base.specs.declared.place.Span.{Span}
use Rattle.gh_ast.specs.declared.Occ.{Occ}
use Rattle.gh_ast.specs.declared.Expr.{Expr}
use Rattle.gh_ast.specs.declared.sign.Sign.{Sign}
use Rattle.gh_ast.specs.declared.sign.Sign.TheVariants as sg
use Rattle.gh_ast.specs.declared.sign.Keyword.{Keyword}
use Rattle.gh_ast.specs.declared.sign.Keyword.TheVariants as kw
use Rattle.gh_ast.specs.Plain.{Cond, Assertion, Statement, set, new, write, free, call, if, while, return, Statements}
use Rattle.gh_ast.specs.Plain.{no_statements, statement_first}
use Rattle.gh_ast.specs.Tokens.{Token, named, key, sign, first_place}
use Rattle.gh_ast.specs.Grammar as g
use Rattle.gh_ast.specs.Printed.{Lexeme, word, reserved, mark, followed, with_signs, name_shown, expr_shown, cond_shown}
use Rattle.gh_ast.specs.Printed.{assertion_shown, statement_shown, statements_shown, otherwise_shown}
use Rattle.gh_ast.specs.Bare.{bare_occ, bare_expr, bare_cond, bare_assertion, bare_statement, bare_statements}
use Rattle.gh_ast.proofs.Printing.{no_more}
use Rattle.gh_ast.proofs.Good.{GoodExpr, SomeGood, GoodStatement, GoodStatements}
use Rattle.gh_ast.proofs.Respelling.{shapes, IsRespelled, take_key, take_sign, take_name, is_dot, expr_again, AsTest}
use Rattle.gh_ast.proofs.Respelling.{test_again}
use Rattle.gh_ast.proofs.FormulasAgain.{assoc4, AsAssertion, formula_again}

-- whether a reserved word of a kind is first
abbrev pub heads : (Keyword → Bool) → List Lexeme → Bool
heads f [] = false
heads f (word w ∷ ls) = false
heads f (reserved k ∷ ls) = f k
heads f (mark s ∷ ls) = false

abbrev pub is_else : Keyword → Bool
is_else kw.Else = true
is_else _ = false

pub no_key : (f : Keyword → Bool) (k : Keyword) (us : List Token) (rest : List Lexeme) → f k ≡ true → shapes us ≡ rest
    → heads f rest ≡ false → g.NoKey k us
no_key f k us rest t e m p after h =
    both_ways (heads f rest) m (subst (λ x. heads f x ≡ true) e (subst (λ u. heads f (shapes u) ≡ true) (sym h) t))

targets_again : (x : Occ) (xs : List Occ) (us : List Token) (rest : List Lexeme)
    → shapes us ≡ with_signs name_shown sg.Comma (x ∷ xs) ++ mark sg.Assign ∷ rest
    → IsRespelled g.SpellsTargets (map bare_occ) us (x ∷ xs) rest
targets_again x [] us rest e =
    let w = take_name x us (mark sg.Assign ∷ rest) e in
    let a = take_sign sg.Assign w.after rest w.left in
    record {
      value = w.value ∷ [];
      after = a.after;
      spells =
          subst (λ u. g.SpellsTargets u (w.value ∷ []) a.after) (sym (w.here ∙ ap (λ u. named w.value ∷ u) a.here))
          g.last_target;
      left = a.left;
      same = ap (λ v. v ∷ []) w.same;
    }
targets_again x (y ∷ xs) us rest e =
    let w = take_name x us (followed name_shown sg.Comma (y ∷ xs) ++ mark sg.Assign ∷ rest) e in
    let c = take_sign sg.Comma w.after (with_signs name_shown sg.Comma (y ∷ xs) ++ mark sg.Assign ∷ rest) w.left in
    let r = targets_again y xs c.after rest c.left in
    record {
      value = w.value ∷ r.value;
      after = r.after;
      spells =
          subst (λ u. g.SpellsTargets u (w.value ∷ r.value) r.after) (sym (w.here ∙ ap (λ u. named w.value ∷ u) c.here))
          (g.next_target r.spells);
      left = r.left;
      same = ap (λ v. v ∷ map bare_occ r.value) w.same ∙ ap (λ v. bare_occ x ∷ v) r.same;
    }

exprs_again : (close : Sign) (x : Expr) (xs : List Expr) → is_dot close ≡ false → SomeGood (x ∷ xs)
    → (us : List Token) (rest : List Lexeme)
    → shapes us ≡ with_signs expr_shown sg.Comma (x ∷ xs) ++ mark close ∷ rest
    → IsRespelled (g.SpellsExprs close) (map bare_expr) us (x ∷ xs) rest
exprs_again close x [] d h us rest e =
    let a =
    expr_again true us x (mark close ∷ rest) h.0 (e ∙ ap (λ v. v ++ mark close ∷ rest) (no_more (expr_shown x)))
    d in
    let c = take_sign close a.after rest a.left in
    record {
      value = a.value ∷ [];
      after = c.after;
      spells =
          g.last_expr (subst (λ u. g.SpellsExpr true us a.value u) c.here a.spells);
      left =
          c.left;
      same = ap (λ v. v ∷ []) a.same;
    }
exprs_again close x (y ∷ xs) d h us rest e =
    let a =
    expr_again true us x (followed expr_shown sg.Comma (y ∷ xs) ++ mark close ∷ rest) h.0
    (e ∙ append_assoc (expr_shown x) (followed expr_shown sg.Comma (y ∷ xs)) (mark close ∷ rest)) refl in
    let c = take_sign sg.Comma a.after (with_signs expr_shown sg.Comma (y ∷ xs) ++ mark close ∷ rest) a.left in
    let r = exprs_again close y xs d h.1 c.after rest c.left in
    record {
      value = a.value ∷ r.value;
      after = r.after;
      spells = g.next_expr (subst (λ u. g.SpellsExpr true us a.value u) c.here a.spells) r.spells;
      left = r.left;
      same = ap (λ v. v ∷ map bare_expr r.value) a.same ∙ ap (λ v. bare_expr x ∷ v) r.same;
    }

values_again : (close : Sign) (xs : List Expr) → is_dot close ≡ false → SomeGood xs
    → (us : List Token) (rest : List Lexeme)
    → shapes us ≡ with_signs expr_shown sg.Comma xs ++ mark close ∷ rest
    → IsRespelled (g.SpellsValues close) (map bare_expr) us xs rest
values_again close [] d h us rest e =
    let c = take_sign close us rest e in
    record {
      value = [];
      after = c.after;
      spells = subst (λ u. g.SpellsValues close u [] c.after) (sym c.here) g.no_values;
      left = c.left;
      same = refl;
    }
values_again close (x ∷ xs) d h us rest e =
    let r = exprs_again close x xs d h us rest e in
    record { value = r.value; after = r.after; spells = g.some_values r.spells; left = r.left; same = r.same }

abbrev pub AsStatement : Statement → Type 0
AsStatement s =
    (us : List Token) (rest : List Lexeme) → shapes us ≡ statement_shown s ++ rest → heads is_else rest ≡ false
    → IsRespelled g.SpellsStatement bare_statement us s rest

set_again : (o : Occ) (x : Expr) → GoodExpr true x → AsStatement (set o x)
set_again o x h us rest e n =
    let body = (expr_shown x ++ mark sg.Semicolon ∷ []) ++ rest in
    let w = take_name o us (mark sg.Assign ∷ body) e in
    let a = take_sign sg.Assign w.after body w.left in
    let r =
    expr_again true a.after x (mark sg.Semicolon ∷ rest) h
    (a.left ∙ append_assoc (expr_shown x) (mark sg.Semicolon ∷ []) rest) refl in
    let c = take_sign sg.Semicolon r.after rest r.left in
    let here = w.here ∙ ap (λ u. named w.value ∷ u) a.here in
    let s = g.a_set (subst (λ u. g.SpellsExpr true a.after r.value u) c.here r.spells) in
    record {
      value = set w.value r.value;
      after = c.after;
      spells = subst (λ u. g.SpellsStatement u (set w.value r.value) c.after) (sym here) s;
      left = c.left;
      same = ap (λ v. set v (bare_expr r.value)) w.same ∙ ap (set (bare_occ o)) r.same;
    }

new_again : (o : Occ) → AsStatement (new o)
new_again o us rest e n =
    let w = take_name o us (mark sg.Assign ∷ reserved kw.New ∷ reserved kw.Node ∷ mark sg.Semicolon ∷ rest) e in
    let a = take_sign sg.Assign w.after (reserved kw.New ∷ reserved kw.Node ∷ mark sg.Semicolon ∷ rest) w.left in
    let k = take_key kw.New a.after (reserved kw.Node ∷ mark sg.Semicolon ∷ rest) a.left in
    let m = take_key kw.Node k.after (mark sg.Semicolon ∷ rest) k.left in
    let c = take_sign sg.Semicolon m.after rest m.left in
    let here =
    w.here ∙ ap (λ u. named w.value ∷ u)
    (a.here ∙ ap (λ u. sign sg.Assign a.place ∷ u)
    (k.here ∙ ap (λ u. key kw.New k.place ∷ u) (m.here ∙ ap (λ u. key kw.Node m.place ∷ u) c.here))) in
    record {
      value = new w.value;
      after = c.after;
      spells =
          subst (λ u. g.SpellsStatement u (new w.value) c.after) (sym here) g.a_new;
      left = c.left;
      same = ap new w.same;
    }

write_again : (o : Occ) (x : Expr) → GoodExpr true x → AsStatement (write o x)
write_again o x h us rest e n =
    let body = (expr_shown x ++ mark sg.Semicolon ∷ []) ++ rest in
    let w = take_name o us (mark sg.Dot ∷ reserved kw.Next ∷ mark sg.Assign ∷ body) e in
    let d = take_sign sg.Dot w.after (reserved kw.Next ∷ mark sg.Assign ∷ body) w.left in
    let k = take_key kw.Next d.after (mark sg.Assign ∷ body) d.left in
    let a = take_sign sg.Assign k.after body k.left in
    let r =
    expr_again true a.after x (mark sg.Semicolon ∷ rest) h
    (a.left ∙ append_assoc (expr_shown x) (mark sg.Semicolon ∷ []) rest) refl in
    let c = take_sign sg.Semicolon r.after rest r.left in
    let here =
    w.here ∙ ap (λ u. named w.value ∷ u)
    (d.here ∙ ap (λ u. sign sg.Dot d.place ∷ u) (k.here ∙ ap (λ u. key kw.Next k.place ∷ u) a.here)) in
    let s = g.a_write (subst (λ u. g.SpellsExpr true a.after r.value u) c.here r.spells) in
    record {
      value = write w.value r.value;
      after = c.after;
      spells = subst (λ u. g.SpellsStatement u (write w.value r.value) c.after) (sym here) s;
      left = c.left;
      same = ap (λ v. write v (bare_expr r.value)) w.same ∙ ap (write (bare_occ o)) r.same;
    }

free_again : (o : Occ) → AsStatement (free o)
free_again o us rest e n =
    let k = take_key kw.Free us (word o.name ∷ mark sg.Semicolon ∷ rest) e in
    let w = take_name o k.after (mark sg.Semicolon ∷ rest) k.left in
    let c = take_sign sg.Semicolon w.after rest w.left in
    let here = k.here ∙ ap (λ u. key kw.Free k.place ∷ u) (w.here ∙ ap (λ u. named w.value ∷ u) c.here) in
    record {
      value = free w.value;
      after = c.after;
      spells =
          subst (λ u. g.SpellsStatement u (free w.value) c.after) (sym here) g.a_free;
      left =
          c.left;
      same = ap free w.same;
    }

call_again : (xs : List Occ) (f : Occ) (es : List Expr) → SomeGood es → AsStatement (call xs f es)
call_again [] f es h us rest e n =
    let body = with_signs expr_shown sg.Comma es ++ mark sg.ParenClose ∷ mark sg.Semicolon ∷ rest in
    let w = take_name f us (mark sg.ParenOpen ∷ body)
    (e ∙ ap (λ v. word f.name ∷ mark sg.ParenOpen ∷ v)
    (append_assoc (with_signs expr_shown sg.Comma es) (mark sg.ParenClose ∷ mark sg.Semicolon ∷ []) rest)) in
    let p = take_sign sg.ParenOpen w.after body w.left in
    let v = values_again sg.ParenClose es refl h p.after (mark sg.Semicolon ∷ rest) p.left in
    let c = take_sign sg.Semicolon v.after rest v.left in
    let here = w.here ∙ ap (λ u. named w.value ∷ u) p.here in
    let s = g.bare_call (subst (λ u. g.SpellsValues sg.ParenClose p.after v.value u) c.here v.spells) in
    record {
      value = call [] w.value v.value;
      after = c.after;
      spells = subst (λ u. g.SpellsStatement u (call [] w.value v.value) c.after) (sym here) s;
      left = c.left;
      same = ap (λ x. call [] x (map bare_expr v.value)) w.same ∙ ap (call [] (bare_occ f)) v.same;
    }
call_again (x ∷ xs) f es h us rest e n =
    let body = with_signs expr_shown sg.Comma es ++ mark sg.ParenClose ∷ mark sg.Semicolon ∷ rest in
    let t = targets_again x xs us (word f.name ∷ mark sg.ParenOpen ∷ body)
    (e ∙ assoc4 (with_signs name_shown sg.Comma (x ∷ xs)) (mark sg.Assign ∷ [])
    (word f.name ∷ mark sg.ParenOpen ∷ with_signs expr_shown sg.Comma es)
    (mark sg.ParenClose ∷ mark sg.Semicolon ∷ []) rest) in
    let w = take_name f t.after (mark sg.ParenOpen ∷ body) t.left in
    let p = take_sign sg.ParenOpen w.after body w.left in
    let v = values_again sg.ParenClose es refl h p.after (mark sg.Semicolon ∷ rest) p.left in
    let c = take_sign sg.Semicolon v.after rest v.left in
    let here = w.here ∙ ap (λ u. named w.value ∷ u) p.here in
    record {
      value = call t.value w.value v.value;
      after = c.after;
      spells =
          g.a_call (subst (λ u. g.SpellsTargets us t.value u) here t.spells)
          (subst (λ u. g.SpellsValues sg.ParenClose p.after v.value u) c.here v.spells);
      left = c.left;
      same = ap (λ y. call y (bare_occ w.value) (map bare_expr v.value)) t.same
          ∙ ap (λ y. call (map bare_occ (x ∷ xs)) y (map bare_expr v.value)) w.same
          ∙ ap (call (map bare_occ (x ∷ xs)) (bare_occ f)) v.same;
    }

give_again : (p : Span) (es : List Expr) → SomeGood es → AsStatement (return p es)
give_again q es h us rest e n =
    let k =
    take_key kw.Return us (with_signs expr_shown sg.Comma es ++ mark sg.Semicolon ∷ rest)
    (e ∙ ap (λ v. reserved kw.Return ∷ v)
    (append_assoc (with_signs expr_shown sg.Comma es) (mark sg.Semicolon ∷ []) rest)) in
    let v = values_again sg.Semicolon es refl h k.after rest k.left in
    record {
      value = return k.place v.value;
      after = v.after;
      spells =
          subst (λ u. g.SpellsStatement u (return k.place v.value) v.after) (sym k.here) (g.a_return v.spells);
      left =
          v.left;
      same = ap (return first_place) v.same;
    }

-- statements up to a brace, with its place
pub record IsBlocked (S : List Token → Statements → Span → List Token → Type 0) (us : List Token) (a : Statements)
    (rest : List Lexeme) : Type 0 where
  pub value : Statements
  pub place : Span
  pub after : List Token
  pub spells : S us value place after
  pub left : shapes after ≡ rest
  pub same : bare_statements value ≡ bare_statements a

abbrev pub AsStatements : Statements → Type 0
AsStatements a =
    (us : List Token) (rest : List Lexeme) → shapes us ≡ statements_shown a ++ mark sg.BraceClose ∷ rest
    → IsBlocked g.SpellsStatements us a rest

block_again : (a : Statements) → AsStatements a → (us : List Token) (rest : List Lexeme)
    → shapes us ≡ mark sg.BraceOpen ∷ statements_shown a ++ mark sg.BraceClose ∷ rest
    → IsBlocked g.SpellsBlock us a rest
block_again a inner us rest e =
    let o = take_sign sg.BraceOpen us (statements_shown a ++ mark sg.BraceClose ∷ rest) e in
    let r = inner o.after rest o.left in
    record {
      value = r.value;
      place = r.place;
      after = r.after;
      spells =
          subst (λ u. g.SpellsBlock u r.value r.place r.after) (sym o.here) (g.a_block r.spells);
      left =
          r.left;
      same = r.same;
    }

-- the test and the block of an `if`, and what follows them
pub record IsHead (us : List Token) (t : Cond) (a : Statements) (rest : List Lexeme) : Type 0 where
  pub p : Span
  pub q : Span
  pub r : Span
  pub inner : List Token
  pub middle : List Token
  pub after : List Token
  pub test : Cond
  pub block : Statements
  pub place : Span
  pub here : us ≡ key kw.If p ∷ sign sg.ParenOpen q ∷ inner
  pub tests : g.SpellsCond true inner test (sign sg.ParenClose r ∷ middle)
  pub blocks : g.SpellsBlock middle block place after
  pub left : shapes after ≡ rest
  pub same_test : bare_cond test ≡ bare_cond t
  pub same_block : bare_statements block ≡ bare_statements a

head_again : (t : Cond) (a : Statements) → AsTest true t → AsStatements a → (us : List Token) (more rest : List Lexeme)
    → shapes us ≡ (reserved kw.If ∷ mark sg.ParenOpen ∷ cond_shown t
    ++ mark sg.ParenClose ∷ mark sg.BraceOpen ∷ statements_shown a ++ mark sg.BraceClose ∷ [] ++ more) ++ rest
    → IsHead us t a (more ++ rest)
head_again t a rt ra us more rest e =
    let tail = mark sg.BraceOpen ∷ statements_shown a ++ mark sg.BraceClose ∷ (more ++ rest) in
    let body = (cond_shown t ++ mark sg.ParenClose ∷ mark sg.BraceOpen ∷ statements_shown a ++ mark sg.BraceClose ∷ []
    ++ more) ++ rest in
    let k = take_key kw.If us (mark sg.ParenOpen ∷ body) e in
    let p = take_sign sg.ParenOpen k.after body k.left in
    let b = rt p.after (mark sg.ParenClose ∷ tail)
    (p.left ∙ assoc4 (cond_shown t) (mark sg.ParenClose ∷ mark sg.BraceOpen ∷ statements_shown a)
    (mark sg.BraceClose ∷ []) more rest) (record { dot = refl; conj = refl; disj = refl }) in
    let c = take_sign sg.ParenClose b.after tail b.left in
    let d = block_again a ra c.after (more ++ rest) c.left in
    record {
      p = k.place;
      q = p.place;
      r = c.place;
      inner = p.after;
      middle = c.after;
      after = d.after;
      test = b.value;
      block = d.value;
      place = d.place;
      here = k.here ∙ ap (λ u. key kw.If k.place ∷ u) p.here;
      tests = subst (λ u. g.SpellsCond true p.after b.value u) c.here b.spells;
      blocks = d.spells;
      left = d.left;
      same_test = b.same;
      same_block = d.same;
    }

choice_again : (t : Cond) (a : Statements) (c : Span) (b : Statements) (d : Span) → AsTest true t → AsStatements a
    → AsStatements b → AsStatement (if t a c b d)
choice_again t a c no_statements d rt ra rb us rest e n =
    let h = head_again t a rt ra us [] rest e in
    let s = g.an_if h.tests h.blocks (no_key is_else kw.Else h.after rest refl h.left n) in
    record {
      value = if h.test h.block h.place no_statements h.place;
      after = h.after;
      spells =
          subst (λ u. g.SpellsStatement u (if h.test h.block h.place no_statements h.place) h.after) (sym h.here) s;
      left = h.left;
      same = ap (λ x. if x (bare_statements h.block) first_place no_statements first_place) h.same_test
          ∙ ap (λ x. if (bare_cond t) x first_place no_statements first_place) h.same_block;
    }
choice_again t a c (statement_first s b) d rt ra rb us rest e n =
    let whole = statement_first s b in
    let h = head_again t a rt ra us (otherwise_shown whole) rest e in
    let l = take_key kw.Else h.after (mark sg.BraceOpen ∷ statements_shown whole ++ mark sg.BraceClose ∷ rest)
    (h.left ∙ ap (λ v. reserved kw.Else ∷ mark sg.BraceOpen ∷ v)
    (append_assoc (statements_shown whole) (mark sg.BraceClose ∷ []) rest)) in
    let r = block_again whole rb l.after rest l.left in
    let x = g.an_if_else h.tests (subst (λ u. g.SpellsBlock h.middle h.block h.place u) l.here h.blocks) r.spells in
    record {
      value = if h.test h.block h.place r.value r.place;
      after = r.after;
      spells = subst (λ u. g.SpellsStatement u (if h.test h.block h.place r.value r.place) r.after) (sym h.here) x;
      left = r.left;
      same = ap (λ v. if v (bare_statements h.block) first_place (bare_statements r.value) first_place) h.same_test
          ∙ ap (λ v. if (bare_cond t) v first_place (bare_statements r.value) first_place) h.same_block
          ∙ ap (λ v. if (bare_cond t) (bare_statements a) first_place v first_place) r.same;
    }

loop_again : (p : Span) (t : Cond) (i : Assertion) (a : Statements) (c : Span) → AsTest true t → AsAssertion i
    → AsStatements a → AsStatement (while p t i a c)
loop_again z t i a c rt ri ra us rest e n =
    let block = mark sg.BraceOpen ∷ statements_shown a ++ mark sg.BraceClose ∷ rest in
    let tail = reserved kw.Invariant ∷ assertion_shown i ++ block in
    let body = (cond_shown t ++ mark sg.ParenClose ∷ reserved kw.Invariant ∷ assertion_shown i
    ++ mark sg.BraceOpen ∷ statements_shown a ++ mark sg.BraceClose ∷ []) ++ rest in
    let k = take_key kw.While us (mark sg.ParenOpen ∷ body) e in
    let p = take_sign sg.ParenOpen k.after body k.left in
    let b = rt p.after (mark sg.ParenClose ∷ tail)
    (p.left ∙ assoc4 (cond_shown t) (mark sg.ParenClose ∷ reserved kw.Invariant ∷ assertion_shown i)
    (mark sg.BraceOpen ∷ statements_shown a) (mark sg.BraceClose ∷ []) rest)
    (record { dot = refl; conj = refl; disj = refl }) in
    let q = take_sign sg.ParenClose b.after tail b.left in
    let v = take_key kw.Invariant q.after (assertion_shown i ++ block) q.left in
    let f = ri v.after block v.left refl in
    let d = block_again a ra f.after rest f.left in
    let here = k.here ∙ ap (λ u. key kw.While k.place ∷ u) p.here in
    let clause = subst (λ u. g.SpellsClause kw.Invariant u f.value f.after) (sym v.here) (g.a_clause f.spells) in
    let s = g.a_while (subst (λ u. g.SpellsCond true p.after b.value u) q.here b.spells) clause d.spells in
    record {
      value = while k.place b.value f.value d.value d.place;
      after = d.after;
      spells = subst (λ u. g.SpellsStatement u (while k.place b.value f.value d.value d.place) d.after) (sym here) s;
      left = d.left;
      same = ap (λ x. while first_place x (bare_assertion f.value) (bare_statements d.value) first_place) b.same
          ∙ ap (λ x. while first_place (bare_cond t) x (bare_statements d.value) first_place) f.same
          ∙ ap (λ x. while first_place (bare_cond t) (bare_assertion i) x first_place) d.same;
    }

-- no statement begins with `else`
statement_not_else : (s : Statement) (rest : List Lexeme) → heads is_else (statement_shown s ++ rest) ≡ false
statement_not_else (set o x) rest = refl
statement_not_else (new o) rest = refl
statement_not_else (write o x) rest = refl
statement_not_else (free o) rest = refl
statement_not_else (call [] f es) rest = refl
statement_not_else (call (x ∷ xs) f es) rest = refl
statement_not_else (if t a c b d) rest = refl
statement_not_else (while p t i a c) rest = refl
statement_not_else (return p es) rest = refl

statements_not_else : (a : Statements) (rest : List Lexeme)
    → heads is_else (statements_shown a ++ mark sg.BraceClose ∷ rest) ≡ false
statements_not_else no_statements rest = refl
statements_not_else (statement_first s a) rest =
    subst (λ x. heads is_else x ≡ false)
    (sym (append_assoc (statement_shown s) (statements_shown a) (mark sg.BraceClose ∷ rest)))
    (statement_not_else s (statements_shown a ++ mark sg.BraceClose ∷ rest))

none_again : AsStatements no_statements
none_again us rest e =
    let c = take_sign sg.BraceClose us rest e in
    record {
      value = no_statements;
      place = c.place;
      after = c.after;
      spells =
          subst (λ u. g.SpellsStatements u no_statements c.place c.after) (sym c.here) g.no_more;
      left =
          c.left;
      same = refl;
    }

more_again : (s : Statement) (a : Statements) → AsStatement s → AsStatements a → AsStatements (statement_first s a)
more_again s a rs ra us rest e =
    let r =
    rs us (statements_shown a ++ mark sg.BraceClose ∷ rest)
    (e ∙ append_assoc (statement_shown s) (statements_shown a) (mark sg.BraceClose ∷ rest))
    (statements_not_else a rest) in
    let b = ra r.after rest r.left in
    record {
      value = statement_first r.value b.value;
      place = b.place;
      after = b.after;
      spells = g.one_more r.spells b.spells;
      left = b.left;
      same = ap (λ x. statement_first x (bare_statements b.value)) r.same
          ∙ ap (statement_first (bare_statement s)) b.same;
    }

mutual
  pub statement_again : (s : Statement) → GoodStatement s → AsStatement s
  statement_again (set o x) h = set_again o x h.1
  statement_again (new o) h = new_again o
  statement_again (write o x) h = write_again o x h.1
  statement_again (free o) h = free_again o
  statement_again (call xs f es) h = call_again xs f es h.2
  statement_again (if t a c b d) h =
      choice_again t a c b d (test_again true t h.0).test (statements_again a h.1) (statements_again b h.2)
  statement_again (while p t i a c) h =
      loop_again p t i a c (test_again true t h.0).test (formula_again i h.1).whole (statements_again a h.2)
  statement_again (return p es) h = give_again p es h

  pub statements_again : (a : Statements) → GoodStatements a → AsStatements a
  statements_again no_statements h = none_again
  statements_again (statement_first s a) h = more_again s a (statement_again s h.0) (statements_again a h.1)
