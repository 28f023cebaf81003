-- Each rule of statements takes at least one token.
use Rattle.std.proofs.Common.{◌<◌, ◌≤◌, List, length, Option, arith}
use Rattle.gh_base.specs.declared.place.Span.{Span}
use Rattle.gh_ast.specs.declared.Occ.{Occ}
use Rattle.gh_ast.specs.Tokens.{Token}
use Rattle.gh_ast.specs.Plain.{Statement, Statements, Body, Procedure}
use Rattle.gh_ast.specs.Grammar.{SpellsTargets, last_target, next_target, SpellsStatement, a_set, a_new, a_write}
use Rattle.gh_ast.specs.Grammar.{a_free, bare_call, a_call, an_if, an_if_else, a_while, a_return, SpellsBlock, a_block}
use Rattle.gh_ast.specs.Grammar.{SpellsStatements, no_more, one_more, SpellsLocals, last_local, next_local}
use Rattle.gh_ast.specs.Grammar.{SpellsOpenBody, no_locals, some_locals, SpellsParams, last_param, next_param}
use Rattle.gh_ast.specs.Grammar.{SpellsHeader, no_params, params, SpellsResults, no_results, results, SpellsBody}
use Rattle.gh_ast.specs.Grammar.{no_body, a_body, SpellsProcedure, a_procedure}
use Rattle.gh_ast.proofs.Shorter.{shorter_expr, shorter_values, shorter_test, shorter_clause, shorter_ensures}

pub shorter_targets : {ts rest : List Token} {x : List Occ} → SpellsTargets ts x rest → length rest < length ts
shorter_targets last_target = omega arith
shorter_targets (next_target a) = let h = shorter_targets a in omega arith

mutual
  pub shorter_statement : {ts rest : List Token} {x : Statement} → SpellsStatement ts x rest → length rest < length ts
  shorter_statement (a_set a) = let h = shorter_expr a in omega arith
  shorter_statement a_new = omega arith
  shorter_statement (a_write a) = let h = shorter_expr a in omega arith
  shorter_statement a_free = omega arith
  shorter_statement (bare_call a) = let h = shorter_values a in omega arith
  shorter_statement (a_call a b) = let h = shorter_targets a in let k = shorter_values b in omega arith
  shorter_statement (an_if a b n) = let h = shorter_test a in let k = shorter_block b in omega arith
  shorter_statement (an_if_else a b c) = let h = shorter_test a in let k = shorter_block b in let m = shorter_block c in
      omega arith
  shorter_statement (a_while a b c) = let h = shorter_test a in let k = shorter_clause b in let m = shorter_block c in
      omega arith
  shorter_statement (a_return a) = let h = shorter_values a in omega arith

  pub shorter_block : {ts rest : List Token} {x : Statements} {c : Span} → SpellsBlock ts x c rest
      → length rest < length ts
  shorter_block (a_block a) = let h = shorter_statements a in omega arith

  pub shorter_statements : {ts rest : List Token} {x : Statements} {c : Span} → SpellsStatements ts x c rest
      → length rest < length ts
  shorter_statements no_more = omega arith
  shorter_statements (one_more a b) = let h = shorter_statement a in let k = shorter_statements b in omega arith

pub shorter_locals : {ts rest : List Token} {x : List Occ} → SpellsLocals ts x rest → length rest < length ts
shorter_locals last_local = omega arith
shorter_locals (next_local a) = let h = shorter_locals a in omega arith

pub shorter_inside : {ts rest : List Token} {x : Body} → SpellsOpenBody ts x rest → length rest < length ts
shorter_inside (no_locals a) = shorter_statements a
shorter_inside (some_locals a i) = let h = shorter_locals a in let k = shorter_inside i in omega arith

pub shorter_params : {ts rest : List Token} {x : List Occ} → SpellsParams ts x rest → length rest < length ts
shorter_params last_param = omega arith
shorter_params (next_param a) = let h = shorter_params a in omega arith

pub shorter_header : {ts rest : List Token} {x : List Occ} → SpellsHeader ts x rest → length rest < length ts
shorter_header no_params = omega arith
shorter_header (params a) = shorter_params a

pub shorter_results : {ts rest : List Token} {x : List Occ} → SpellsResults ts x rest → length rest ≤ length ts
shorter_results (no_results n) = omega arith
shorter_results (results a) = let h = shorter_header a in omega arith

pub shorter_body : {ts rest : List Token} {x : Option Body} {c : Span} → SpellsBody ts x c rest
    → length rest < length ts
shorter_body no_body = omega arith
shorter_body (a_body a) = let h = shorter_inside a in omega arith

pub shorter_procedure : {ts rest : List Token} {x : Procedure} → SpellsProcedure ts x rest → length rest < length ts
shorter_procedure (a_procedure h r f g b) =
    let i = shorter_header h in let j = shorter_results r in let k = shorter_clause f in let l = shorter_ensures g in
    let m = shorter_body b in omega arith
