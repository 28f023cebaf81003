use Rattle.std.proofs.Common.{◌++◌, ◌∙◌, sym, ap, subst}
use Rattle.gh_ast.specs.Plain.{procedure_of}
use Rattle.gh_ast.specs.Programs.{names}
use Rattle.gh_assert.specs.Stores.{AreDistinct}
use Rattle.gh_trace.specs.Targets.{entries_of}
use Rattle.gh_trace.proofs.Insides.{told_parameters, parameters_apart}
use Rattle.gh_trace.proofs.stores.with_parameters.Goals as goal

pub add_all-requires-clause-distinct : goal.add_all-requires-clause-distinct
add_all-requires-clause-distinct c =
    subst (λ os. AreDistinct (c.new-store.result ++ entries_of (names os) c.args.given.now))
    (sym c.as_slice.ensures.value)
    (parameters_apart (procedure_of c.args.callee.now) c.args.given.now c.new-store.result c.requires.distinct
    c.requires.count c.new-store.ensures)

pub returns : goal.returns
returns c =
    told_parameters (procedure_of c.args.callee.now) c.args.given.now c.new-store.result c.add_all.new.store
    c.requires.distinct c.requires.count c.new-store.ensures
    (c.in_ok-add_all.ensures ∙ ap (λ os. c.new-store.result ++ entries_of (names os) c.args.given.now)
    c.as_slice.ensures.value)
