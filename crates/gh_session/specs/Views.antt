-- Essences as they are kept.
use Rattle.std.specs.Prelude.{◌≡◌, ℕ, List, map}
use Rattle.gh_ast.specs.Plain.{Procedure, Program, assertion_of}
use Rattle.gh_ast.specs.Programs.{Name}
use Rattle.gh_path.specs.Graphs.{While}
use Rattle.gh_path.specs.Kept.{condition_of}
use Rattle.gh_path.specs.declared.condition.Condition as condition
use Rattle.gh_session.specs.Essences as plain
use Rattle.gh_session.specs.declared.essence.Contract as kept_contract
use Rattle.gh_session.specs.declared.essence.LoopContract as kept_round
use Rattle.gh_session.specs.declared.essence.Start as kept_start
use Rattle.gh_session.specs.declared.essence.Start.TheVariants as start
use Rattle.gh_session.specs.declared.essence.Step as kept_step
use Rattle.gh_session.specs.declared.essence.Step.TheVariants as step
use Rattle.gh_session.specs.declared.essence.Check as kept_check
use Rattle.gh_session.specs.declared.essence.Check.TheVariants as check
use Rattle.gh_session.specs.declared.essence.Essence as kept_essence

abbrev pub contract_view : kept_contract.Contract → plain.Contract
contract_view k = record {
  parameters = k.parameters.items;
  results = k.results.items;
  needs = assertion_of k.needs;
  gives = map assertion_of k.gives.items;
}

abbrev pub loop_contract_view : kept_round.LoopContract → plain.LoopContract
loop_contract_view l = record { invariant = assertion_of l.invariant; assigned = l.assigned.items }

abbrev pub start_view : kept_start.Start → plain.Start
start_view start.Entry = plain.at_entry
start_view (start.Loop n) = plain.at_loop n

abbrev pub step_view : kept_step.Step → plain.Step
step_view (step.Access a) = plain.access_step a
step_view (step.Assume l e r) = plain.assume_step l e r
step_view (step.Set a e) = plain.set_step a e
step_view (step.New a) = plain.new_step a
step_view (step.Write a e) = plain.write_step a e
step_view (step.Free a) = plain.free_step a
step_view (step.Call xs n es) = plain.call_step xs.items n es.items
step_view (step.Loop n) = plain.while_step n
step_view (step.Return es) = plain.return_step es.items

abbrev pub check_view : kept_check.Check → plain.Check
check_view (check.Access a) = plain.access a
check_view (check.Entry n es) = plain.callee_entry n es.items
check_view (check.LoopEntry n) = plain.loop_entry n
check_view check.Return = plain.return_check
check_view (check.LoopEnd n) = plain.loop_end n

abbrev pub essence_view : kept_essence.Essence → plain.Essence
essence_view e =
    record {
      variables = e.variables.items;
      contracts = map contract_view e.contracts.items;
      loops = map loop_contract_view e.loops.items;
      start = start_view e.start;
      steps = map step_view e.steps.items;
      check = check_view e.check;
    }

-- the contracts of the procedures of these numbers
abbrev pub AreContractsAt : List Procedure → List ℕ → List kept_contract.Contract → Type 0
AreContractsAt qs ns ks = map contract_view ks ≡ map (plain.contract_at qs) ns

-- the loops of these numbers, of a procedure with the variables xs
abbrev pub AreLoopContractsAt : List Name → List While → List ℕ → List kept_round.LoopContract → Type 0
AreLoopContractsAt xs ls ns rs = map loop_contract_view rs ≡ map (plain.loop_contract_at xs ls) ns

-- e is the essence of the condition r of the procedure proc, as it is kept
abbrev pub IsEssenceIn : Program → Procedure → condition.Condition → kept_essence.Essence → Type 0
IsEssenceIn P proc r e = essence_view e ≡ plain.essence P proc (condition_of r)
