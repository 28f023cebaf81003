-- A program that breaks no type rule keeps what the composition needs.
use Rattle.std.specs.Prelude.{List, ◌++◌, map, Bool, true, false, Contains}
use Rattle.std.proofs.lemmas.List.Elements.{Contains-append_left, Contains-append_right}
use Rattle.gh_base.specs.declared.place.Span.{Span}
use Rattle.gh_ast.specs.declared.Expr.{Expr}
use Rattle.gh_ast.specs.Plain.{Statement, set, new, write, free, call, if, while, return, Statements, no_statements}
use Rattle.gh_ast.specs.Plain.{statement_first}
use Rattle.gh_ast.specs.Programs.{body_statements}
use Rattle.gh_ast.specs.Occurrences.{in_cond, in_assertion, in_exprs, Site, mentioned, returned, sites_in, all_sites_in}
use Rattle.gh_ast.proofs.Lists.{member_first}
use Rattle.gh_ast.proofs.TypedPrograms.{parameters_stay, results_are_not_parameters, needs_are_parameters}
use Rattle.gh_ast.proofs.TypedPrograms.{no_return_inside}
use Rattle.gh_decide.specs.Rules.{ReturnsNot, AllReturnNot, LoopsReturnNot, AllLoopsReturnNot}
use Rattle.gh_decide.specs.Laws.{TypedKeepRules, TypedIsGood}
use Rattle.gh_decide.proofs.Valid.{listed_is_good}

-- among the sites none is a return inside a loop's body
abbrev NoneInside : List Site → Type 0
NoneInside xs = (w : Span) (es : List Expr) → Contains xs (returned true w es) → ⊥

none_left : (xs ys : List Site) → NoneInside (xs ++ ys) → NoneInside xs
none_left xs ys none w es there = none w es (Contains-append_left xs ys (returned true w es) there)

none_right : (xs ys : List Site) → NoneInside (xs ++ ys) → NoneInside ys
none_right xs ys none w es there = none w es (Contains-append_right xs ys (returned true w es) there)

none_middle : (ms xs ys : List Site) → NoneInside (ms ++ xs ++ ys) → NoneInside xs
none_middle ms xs ys none = none_right ms xs (none_left (ms ++ xs) ys none)

-- inside a loop's body nothing returns
mutual
  returns_not : (s : Statement) → NoneInside (sites_in true s) → ReturnsNot s
  returns_not (set x e) none = tt
  returns_not (new x) none = tt
  returns_not (write x e) none = tt
  returns_not (free x) none = tt
  returns_not (call xs f es) none = tt
  returns_not (if t a c b d) none = (
    all_return_not a (none_middle (map mentioned (in_cond t)) (all_sites_in true a) (all_sites_in true b) none),
    all_return_not b (none_right (map mentioned (in_cond t) ++ all_sites_in true a) (all_sites_in true b) none),
  )
  returns_not (while at t i body close) none =
      all_return_not body (none_right (map mentioned (in_cond t ++ in_assertion i)) (all_sites_in true body) none)
  returns_not (return at es) none = none at es (member_first (returned true at es) (map mentioned (in_exprs es)))

  all_return_not : (ss : Statements) → NoneInside (all_sites_in true ss) → AllReturnNot ss
  all_return_not no_statements none = tt
  all_return_not (statement_first s ss) none = (
    returns_not s (none_left (sites_in true s) (all_sites_in true ss) none),
    all_return_not ss (none_right (sites_in true s) (all_sites_in true ss) none),
  )

-- no return stands in a loop
mutual
  loops_return_not : (inside : Bool) (s : Statement) → NoneInside (sites_in inside s) → LoopsReturnNot s
  loops_return_not inside (set x e) none = tt
  loops_return_not inside (new x) none = tt
  loops_return_not inside (write x e) none = tt
  loops_return_not inside (free x) none = tt
  loops_return_not inside (call xs f es) none = tt
  loops_return_not inside (if t a c b d) none = (
    all_loops_return_not inside a
        (none_middle (map mentioned (in_cond t)) (all_sites_in inside a) (all_sites_in inside b) none),
    all_loops_return_not inside b
        (none_right (map mentioned (in_cond t) ++ all_sites_in inside a) (all_sites_in inside b) none),
  )
  loops_return_not inside (while at t i body close) none =
      let within : NoneInside (all_sites_in true body) =
      none_right (map mentioned (in_cond t ++ in_assertion i)) (all_sites_in true body) none in
      (all_return_not body within, all_loops_return_not true body within)
  loops_return_not inside (return at es) none = tt

  all_loops_return_not : (inside : Bool) (ss : Statements) → NoneInside (all_sites_in inside ss) → AllLoopsReturnNot ss
  all_loops_return_not inside no_statements none = tt
  all_loops_return_not inside (statement_first s ss) none = (
    loops_return_not inside s (none_left (sites_in inside s) (all_sites_in inside ss) none),
    all_loops_return_not inside ss (none_right (sites_in inside s) (all_sites_in inside ss) none),
  )

pub typed_keep_rules : TypedKeepRules
typed_keep_rules P typed proc here = record {
  parameters_stay = parameters_stay P typed proc here;
  distinct = results_are_not_parameters P typed proc here;
  needs_in = needs_are_parameters P typed proc here;
  loops_return_not = all_loops_return_not false (body_statements proc) (no_return_inside P typed proc here);
}

pub typed_is_good : TypedIsGood
typed_is_good P typed valid = listed_is_good P (typed_keep_rules P typed) valid
