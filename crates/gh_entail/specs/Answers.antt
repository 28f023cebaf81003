-- What the answer to a question says.
use Rattle.std.specs.Prelude.{◌≡◌}
use Rattle.gh_ground.specs.Solving.{IsRefutationOf}
use Rattle.gh_ast.specs.Programs.{names}
use Rattle.gh_ast.specs.Questions.{Question}
use Rattle.gh_base.specs.Structures.{Tables}
use Rattle.gh_assert.specs.Heaps.{IsProper}
use Rattle.gh_assert.specs.Stores.{listed_names, store_of}
use Rattle.gh_trace.specs.declared.state.State.{State}
use Rattle.gh_model.specs.KeptTraces.{state_in}
use Rattle.gh_entail.specs.Meaning.{IsEntailed, Fails}
use Rattle.gh_entail.specs.Formulas.{question_problem}
use Rattle.gh_entail.specs.declared.admit.Asked.{Asked}
use Rattle.gh_entail.specs.declared.answer.Entailment.{Entailment}
use Rattle.gh_entail.specs.declared.answer.Entailment.TheVariants.{Yes, No}

-- the state of a question in a structure: the variables with their values, and the heap of version 0
abbrev pub shown_state : Tables → Asked → State
shown_state s asked = state_in s (names asked.question.variables.items) 0 asked.over.binding

-- the store lists the variables of the question in order, no cell stands at null, and in the state the left claim holds
-- and the right one doesn't
pub record FailsIn (q : Question) (x : State) : Type 0 where
  pub names : listed_names x.store ≡ names q.variables
  pub proper : IsProper x.heap
  pub fails : Fails q (store_of x.store) x.heap

-- entailed, with a section that refutes its clauses; or it fails in the state
abbrev pub IsAnswer : Question → Entailment → Type 0
IsAnswer q (Yes s) = IsEntailed q × IsRefutationOf (question_problem q) s
IsAnswer q (No x) = FailsIn q x
