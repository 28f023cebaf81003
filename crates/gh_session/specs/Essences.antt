-- The essence of a condition: all that its counterexamples depend on, with its procedures and loops numbered as they
-- appear and each place forgotten.
use Rattle.std.specs.Prelude.{ℕ, List, [], ◌∷◌, ◌++◌, map, filter, flat_map, get_or, Bool}
use Rattle.gh_ast.specs.declared.Expr.{Expr}
use Rattle.gh_ast.specs.Plain.{Assertion, empty, Procedure, Program}
use Rattle.gh_ast.specs.Programs.{Name, names, parameters_of, results_of, variable_names}
use Rattle.gh_ast.specs.Bare.{bare_expr, bare_assertion}
use Rattle.gh_path.specs.Graphs as path
use Rattle.gh_path.specs.Graphs.{While, loops_of}
use Rattle.gh_path.specs.Conditions.{Condition}
use Rattle.gh_path.specs.Terms.{some_assigns}
use Rattle.gh_session.specs.Numbering.{listed, place}

pub record Contract : Type 0 where
  pub parameters : List Name
  pub results : List Name
  pub needs : Assertion
  -- the alternatives of what is ensured
  pub gives : List Assertion

-- an invariant, and the variables that the body assigns, in the order of the procedure's
pub record LoopContract : Type 0 where
  pub invariant : Assertion
  pub assigned : List Name

-- a procedure is a place in the list of contracts, a loop one in the list of loops
pub data Step : Type 0 where
  access_step : Name → Step
  -- `assume_step l e r`: l and r are equal where e is true, and differ where it is false
  assume_step : Expr → Bool → Expr → Step
  set_step : Name → Expr → Step
  new_step : Name → Step
  write_step : Name → Expr → Step
  free_step : Name → Step
  call_step : List Name → ℕ → List Expr → Step
  while_step : ℕ → Step
  return_step : List Expr → Step

pub data Start : Type 0 where
  at_entry : Start
  at_loop : ℕ → Start

pub data Check : Type 0 where
  access : Name → Check
  callee_entry : ℕ → List Expr → Check
  loop_entry : ℕ → Check
  return_check : Check
  loop_end : ℕ → Check

pub record Essence : Type 0 where
  pub variables : List Name
  pub contracts : List Contract
  pub loops : List LoopContract
  pub start : Start
  pub steps : List Step
  pub check : Check

abbrev pub contract_of : Procedure → Contract
contract_of q = record {
  parameters = parameters_of q;
  results = results_of q;
  needs = bare_assertion q.needs;
  gives = map bare_assertion q.gives;
}

-- a loop of a procedure with the variables xs
abbrev pub loop_contract_of : List Name → While → LoopContract
loop_contract_of xs l = record { invariant = bare_assertion l.invariant; assigned = filter (some_assigns l.body) xs }

-- what stands for a procedure or a loop that isn't there; a condition of a program has none such
abbrev pub no_contract : Contract
no_contract = record { parameters = []; results = []; needs = empty; gives = [] }

abbrev pub no_loop_contract : LoopContract
no_loop_contract = record { invariant = empty; assigned = [] }

-- the contract of the procedure of a number
abbrev pub contract_at : List Procedure → ℕ → Contract
contract_at qs n = get_or (map contract_of qs) n no_contract

-- the loop of a number, of a procedure with the variables xs
abbrev pub loop_contract_at : List Name → List While → ℕ → LoopContract
loop_contract_at xs ls n = get_or (map (loop_contract_of xs) ls) n no_loop_contract

-- the procedures and the loops that a condition names, as they stand in it
abbrev pub callees_in : path.PathStep → List ℕ
callees_in (path.call_step xs n es) = n ∷ []
callees_in _ = []

abbrev pub callees_at : path.Check → List ℕ
callees_at (path.callee_entry at n es) = n ∷ []
callees_at _ = []

abbrev pub loops_from : path.Start → List ℕ
loops_from path.at_entry = []
loops_from (path.at_loop n) = n ∷ []

abbrev pub loops_in : path.PathStep → List ℕ
loops_in (path.while_step n) = n ∷ []
loops_in _ = []

abbrev pub loops_at : path.Check → List ℕ
loops_at (path.loop_entry at n) = n ∷ []
loops_at (path.loop_end at n) = n ∷ []
loops_at _ = []

-- each of these numbers once: the condition's own procedure first, and the loop at which it starts first
abbrev pub procedures_of : Condition → List ℕ
procedures_of c = listed (c.procedure ∷ []) (flat_map callees_in c.way.steps ++ callees_at c.way.check)

abbrev pub loops_met : Condition → List ℕ
loops_met c = listed (loops_from c.start) (flat_map loops_in c.way.steps ++ loops_at c.way.check)

-- a start, a step and a check over the lists ps of procedures and ls of loops
abbrev pub start_in : List ℕ → path.Start → Start
start_in ls path.at_entry = at_entry
start_in ls (path.at_loop n) = at_loop (place n ls)

abbrev pub step_in : List ℕ → List ℕ → path.PathStep → Step
step_in ps ls (path.access_step x) = access_step x.name
step_in ps ls (path.assume_step l e r) = assume_step (bare_expr l) e (bare_expr r)
step_in ps ls (path.set_step x e) = set_step x.name (bare_expr e)
step_in ps ls (path.write_step x e) = write_step x.name (bare_expr e)
step_in ps ls (path.new_step x) = new_step x.name
step_in ps ls (path.free_step x) = free_step x.name
step_in ps ls (path.call_step xs n es) = call_step (names xs) (place n ps) (map bare_expr es)
step_in ps ls (path.while_step n) = while_step (place n ls)
step_in ps ls (path.return_step es) = return_step (map bare_expr es)

abbrev pub check_in : List ℕ → List ℕ → path.Check → Check
check_in ps ls (path.access x) = access x.name
check_in ps ls (path.callee_entry at n es) = callee_entry (place n ps) (map bare_expr es)
check_in ps ls (path.loop_entry at n) = loop_entry (place n ls)
check_in ps ls (path.return_check at) = return_check
check_in ps ls (path.loop_end at n) = loop_end (place n ls)

-- the essence of the condition c of the procedure proc of the program P
abbrev pub essence : Program → Procedure → Condition → Essence
essence P proc c =
    record {
      variables = variable_names proc;
      contracts = map (contract_at P.procedures) (procedures_of c);
      loops = map (loop_contract_at (variable_names proc) (loops_of proc)) (loops_met c);
      start = start_in (loops_met c) c.start;
      steps = map (step_in (procedures_of c) (loops_met c)) c.way.steps;
      check = check_in (procedures_of c) (loops_met c) c.way.check;
    }
