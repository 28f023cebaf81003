use Rattle.std.proofs.Common.{sym}
use Rattle.gh_ast.specs.Questions.{question_of}
use Rattle.gh_entail.proofs.Stating.{variables_are_distinct, distinct_after}
use Rattle.gh_entail.proofs.Answering.{terms_below}
use Rattle.gh_entail.proofs.answer.state.Goals as goal

pub add_all-requires-clause-below : goal.add_all-requires-clause-below
add_all-requires-clause-below c =
    terms_below (question_of c.args.asked.now.question) c.args.asked.now.over c.args.structure.now.sizes.terms
    c.args.asked.now.told c.requires.terms

pub add_all-requires-clause-distinct : goal.add_all-requires-clause-distinct
add_all-requires-clause-distinct c =
    distinct_after c.new-store.result _ c.as_slice-variables.result.now c.new-store.ensures
    (sym c.as_slice-variables.ensures.value)
    (variables_are_distinct (question_of c.args.asked.now.question) c.args.asked.now.admitted.typed)
