-- An essence from its parts.
use Rattle.std.proofs.Common.{◌≡◌, ◌∙◌, refl, sym, [], ◌∷◌, ap, subst, Some, ℕ, List, map, filter, get_or, Vec, Global}
use Rattle.gh_ast.specs.Plain.{Procedure, Program, program_of, assertion_of, statements_view}
use Rattle.gh_ast.specs.Programs.{variable_names}
use Rattle.std.specs.Prelude.{slice_get}
use Rattle.gh_ast.specs.declared.Program as whole
use Rattle.gh_ast.specs.Rules.{IsTyped}
use Rattle.gh_session.specs.Laws.{HasEssence}
use Rattle.gh_ast.specs.Bare.{bare_assertion}
use Rattle.gh_ast.specs.declared.Assertion.{Assertion}
use Rattle.gh_ast.proofs.PlainLemmas.{part_of-statements}
use Rattle.gh_base.specs.declared.name.Name.{Name}
use Rattle.gh_ast.specs.Programs as plain_name
use Rattle.gh_session.specs.declared.essence.LoopContract as kept_round
use Rattle.gh_path.specs.Graphs.{While, loops_of}
use Rattle.gh_path.specs.Terms.{some_assigns}
use Rattle.gh_path.specs.Walking.{loop_of}
use Rattle.gh_path.specs.declared.loops.While.{While as CodeWhile}
use Rattle.gh_path.specs.Conditions.{Condition}
use Rattle.gh_path.specs.Kept.{IsOne, condition_of}
use Rattle.gh_path.specs.declared.condition.Condition as kept_condition
use Rattle.gh_session.specs.Essences.{Essence, contract_of, loop_contract_of, no_contract, no_loop_contract}
use Rattle.gh_session.specs.Essences.{procedures_of, loops_met, start_in, step_in, check_in, essence}
use Rattle.gh_session.specs.Views.{contract_view, loop_contract_view, start_view, step_view, check_view, essence_view}
use Rattle.gh_session.specs.declared.essence.Essence as kept_essence

pub assembled : (P : Program) (proc : Procedure) (c : Condition) (e : kept_essence.Essence) (ps ls : List ℕ)
    (table : List Procedure) (vars : List plain_name.Name) (loops : List While) → ps ≡ procedures_of c
    → ls ≡ loops_met c → table ≡ P.procedures → vars ≡ variable_names proc → loops ≡ loops_of proc →
    e.variables.items ≡ variable_names proc
    → map contract_view e.contracts.items ≡ map (λ n. get_or (map contract_of table) n no_contract) ps
    → map loop_contract_view e.loops.items
    ≡ map (λ n. get_or (map (loop_contract_of vars) loops) n no_loop_contract) ls →
    start_view e.start ≡ start_in ls c.start → map step_view e.steps.items ≡ map (step_in ps ls) c.way.steps
    → check_view e.check ≡ check_in ps ls c.way.check → essence_view e ≡ essence P proc c
assembled P proc c e ps ls table vars loops is_ps is_ls is_table is_vars is_loops variables contracts rounds start steps
    check = λ i. record {
      variables = variables i;
      contracts = (contracts ∙ (λ j. map (λ n. get_or (map contract_of (is_table j)) n no_contract) (is_ps j))) i;
      loops = (rounds ∙ (λ j. map (λ n. get_or (map (loop_contract_of (is_vars j)) (is_loops j)) n no_loop_contract)
          (is_ls j))) i;
      start = (start ∙ (λ j. start_in (is_ls j) c.start)) i;
      steps = (steps ∙ (λ j. map (step_in (is_ps j) (is_ls j)) c.way.steps)) i;
      check = (check ∙ (λ j. check_in (is_ps j) (is_ls j) c.way.check)) i;
    }

-- the alternatives of a procedure at 1:1
pub bare_all : (fs : List Assertion)
    → map (λ f. bare_assertion (assertion_of f)) fs ≡ map bare_assertion (map assertion_of fs)
bare_all [] = refl
bare_all (f ∷ fs) = ap (λ gs. bare_assertion (assertion_of f) ∷ gs) (bare_all fs)

pub made_round : (f : Assertion) (ns : Vec Name Global) (xs : List plain_name.Name) (w : CodeWhile)
    → assertion_of f ≡ bare_assertion (assertion_of w.invariant.now)
    → ns.items ≡ filter (some_assigns (statements_view w.body.now.statements.items)) xs →
    (let r : kept_round.LoopContract = record { invariant = f; assigned = ns } in loop_contract_view r)
    ≡ loop_contract_of xs (loop_of w)
made_round f ns xs w is named =
    λ i. record {
      invariant = is i;
      assigned = (named ∙ ap (λ ss. filter (some_assigns ss) xs) (sym (part_of-statements w.body.now))) i;
    }

pub gives_essence : (P Q : whole.Program) (r : kept_condition.Condition) (proc : Procedure) (E : Essence) → P ≡ Q
    → IsTyped (program_of P) → IsOne (program_of Q) r → slice_get (program_of P).procedures r.procedure ≡ Some proc
    → E ≡ essence (program_of P) proc (condition_of r) →
    HasEssence (program_of Q) (condition_of r) E
gives_essence P Q r proc E same typed one at is =
    subst (λ R. IsOne (program_of R) r → HasEssence (program_of R) (condition_of r) E) same
    (λ o. record { typed = typed; one = o; procedure = proc; of = at; is = sym is }) one
