-- Each rule takes at least one token.
use Rattle.std.proofs.Common.{◌<◌, ◌≤◌, List, length, Bool, arith}
use Rattle.gh_ast.specs.declared.Operand.{Operand}
use Rattle.gh_ast.specs.declared.Expr.{Expr}
use Rattle.gh_ast.specs.declared.sign.Sign.{Sign}
use Rattle.gh_ast.specs.declared.sign.Keyword.{Keyword}
use Rattle.gh_ast.specs.Tokens.{Token}
use Rattle.gh_ast.specs.Plain.{Cond, Conds, Assertion, Assertions}
use Rattle.gh_ast.specs.Grammar.{SpellsOperand, null_operand, variable, SpellsExpr, plain, read, SpellsExprs, last_expr}
use Rattle.gh_ast.specs.Grammar.{next_expr, SpellsValues, no_values, some_values, SpellsLit, negated, bracketed}
use Rattle.gh_ast.specs.Grammar.{equated, distinguished, SpellsConj, one_lit, lits, SpellsLits, last_lit, next_lit}
use Rattle.gh_ast.specs.Grammar.{SpellsCond, one_conj, conjs, SpellsConjs, last_conj, next_conj, SpellsItem, emp, acc}
use Rattle.gh_ast.specs.Grammar.{lseg, pointed, same, different, by_cases, in_brackets, SpellsAssertion, one_item}
use Rattle.gh_ast.specs.Grammar.{items, SpellsItems, last_item, next_item, SpellsAlternatives, last_alternative}
use Rattle.gh_ast.specs.Grammar.{next_alternative, SpellsClause, SpellsEnsures, no_clause, a_clause}

pub shorter_operand : {ts rest : List Token} {x : Operand} → SpellsOperand ts x rest → length rest < length ts
shorter_operand null_operand = omega arith
shorter_operand variable = omega arith

pub shorter_expr : {reads : Bool} {ts rest : List Token} {x : Expr} → SpellsExpr reads ts x rest
    → length rest < length ts
shorter_expr (plain a n) = shorter_operand a
shorter_expr read = omega arith

pub shorter_exprs : {close : Sign} {ts rest : List Token} {x : List Expr} → SpellsExprs close ts x rest
    → length rest < length ts
shorter_exprs (last_expr a) = let h = shorter_expr a in omega arith
shorter_exprs (next_expr a b) = let h = shorter_expr a in let k = shorter_exprs b in omega arith

pub shorter_values : {close : Sign} {ts rest : List Token} {x : List Expr} → SpellsValues close ts x rest
    → length rest < length ts
shorter_values no_values = omega arith
shorter_values (some_values a) = shorter_exprs a

mutual
  pub shorter_literal : {reads : Bool} {ts rest : List Token} {x : Cond} → SpellsLit reads ts x rest
      → length rest < length ts
  shorter_literal (negated a) = let h = shorter_test a in omega arith
  shorter_literal (bracketed a) = let h = shorter_test a in omega arith
  shorter_literal (equated a b) = let h = shorter_expr a in let k = shorter_expr b in omega arith
  shorter_literal (distinguished a b) = let h = shorter_expr a in let k = shorter_expr b in omega arith

  pub shorter_conjunction : {reads : Bool} {ts rest : List Token} {x : Cond} → SpellsConj reads ts x rest
      → length rest < length ts
  shorter_conjunction (one_lit a n) = shorter_literal a
  shorter_conjunction (lits a b) = let h = shorter_literal a in let k = shorter_literals b in omega arith

  pub shorter_literals : {reads : Bool} {ts rest : List Token} {x : Conds} → SpellsLits reads ts x rest
      → length rest < length ts
  shorter_literals (last_lit a n) = shorter_literal a
  shorter_literals (next_lit a b) = let h = shorter_literal a in let k = shorter_literals b in omega arith

  pub shorter_test : {reads : Bool} {ts rest : List Token} {x : Cond} → SpellsCond reads ts x rest
      → length rest < length ts
  shorter_test (one_conj a n) = shorter_conjunction a
  shorter_test (conjs a b) = let h = shorter_conjunction a in let k = shorter_conjunctions b in omega arith

  pub shorter_conjunctions : {reads : Bool} {ts rest : List Token} {x : Conds} → SpellsConjs reads ts x rest
      → length rest < length ts
  shorter_conjunctions (last_conj a n) = shorter_conjunction a
  shorter_conjunctions (next_conj a b) = let h = shorter_conjunction a in let k = shorter_conjunctions b in omega arith

mutual
  pub shorter_item : {ts rest : List Token} {x : Assertion} → SpellsItem ts x rest → length rest < length ts
  shorter_item emp = omega arith
  shorter_item acc = omega arith
  shorter_item (lseg a b) = let h = shorter_operand a in let k = shorter_operand b in omega arith
  shorter_item (pointed a) = let h = shorter_operand a in omega arith
  shorter_item (same a b) = let h = shorter_operand a in let k = shorter_operand b in omega arith
  shorter_item (different a b) = let h = shorter_operand a in let k = shorter_operand b in omega arith
  shorter_item (by_cases t a b) = let i = shorter_test t in let h = shorter_assertion a in
      let k = shorter_assertion b in omega arith
  shorter_item (in_brackets a) = let h = shorter_assertion a in omega arith

  pub shorter_assertion : {ts rest : List Token} {x : Assertion} → SpellsAssertion ts x rest → length rest < length ts
  shorter_assertion (one_item a n) = shorter_item a
  shorter_assertion (items a b) = let h = shorter_item a in let k = shorter_items b in omega arith

  pub shorter_items : {ts rest : List Token} {x : Assertions} → SpellsItems ts x rest → length rest < length ts
  shorter_items (last_item a n) = shorter_item a
  shorter_items (next_item a b) = let h = shorter_item a in let k = shorter_items b in omega arith

pub shorter_clause : {k : Keyword} {ts rest : List Token} {x : Assertion} → SpellsClause k ts x rest
    → length rest ≤ length ts
shorter_clause (no_clause n) = omega arith
shorter_clause (a_clause a) = let h = shorter_assertion a in omega arith

shorter_alternatives : {ts rest : List Token} {l : List Assertion} → SpellsAlternatives ts l rest
    → length rest < length ts
shorter_alternatives (last_alternative a n) = shorter_assertion a
shorter_alternatives (next_alternative a b) = let h = shorter_assertion a in let k = shorter_alternatives b in
    omega arith

pub shorter_ensures : {ts rest : List Token} {l : List Assertion} → SpellsEnsures ts l rest → length rest ≤ length ts
shorter_ensures (no_clause n) = omega arith
shorter_ensures (a_clause a) = let h = shorter_alternatives a in omega arith
