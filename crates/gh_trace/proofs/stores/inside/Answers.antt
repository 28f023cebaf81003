use Rattle.std.proofs.Common.{◌++◌, ◌∙◌, sym, ap, subst}
use Rattle.gh_ast.specs.Plain.{procedure_of}
use Rattle.gh_ast.specs.Programs.{names}
use Rattle.gh_assert.specs.Stores.{AreDistinct}
use Rattle.gh_trace.specs.Targets.{entries_of}
use Rattle.gh_trace.proofs.Insides.{told_both, parameters_apart, results_apart}
use Rattle.gh_trace.proofs.stores.inside.Goals as goal

pub add_all-requires-clause-distinct : goal.add_all-requires-clause-distinct
add_all-requires-clause-distinct c =
    subst (λ os. AreDistinct (c.new-store.result ++ entries_of (names os) c.args.given.now))
    (sym c.as_slice.ensures.value)
    (parameters_apart (procedure_of c.args.callee.now) c.args.given.now c.new-store.result c.requires.distinct
    c.requires.given c.new-store.ensures)

pub add_all-requires-2-clause-distinct : goal.add_all-requires-2-clause-distinct
add_all-requires-2-clause-distinct c =
    subst (λ os. AreDistinct (c.add_all.new.store ++ entries_of (names os) c.args.results.now))
    (sym c.as_slice-2.ensures.value)
    (results_apart (procedure_of c.args.callee.now) c.args.given.now c.args.results.now c.new-store.result
    c.add_all.new.store c.requires.distinct c.requires.given c.requires.results c.new-store.ensures
    (c.in_ok-add_all.ensures ∙ ap (λ os. c.new-store.result ++ entries_of (names os) c.args.given.now)
    c.as_slice.ensures.value))

pub returns-clause-given : goal.returns-clause-given
returns-clause-given c =
    (told_both (procedure_of c.args.callee.now) c.args.given.now c.args.results.now c.new-store.result
    c.add_all.new.store c.add_all-2.new.store c.requires.distinct c.requires.given c.requires.results
    c.new-store.ensures
    (c.in_ok-add_all.ensures ∙ ap (λ os. c.new-store.result ++ entries_of (names os) c.args.given.now)
    c.as_slice.ensures.value)
    (c.in_ok-add_all-2.ensures
    ∙ ap (λ os. c.add_all.new.store ++ entries_of (names os) c.args.results.now) c.as_slice-2.ensures.value)).0

pub returns-clause-results : goal.returns-clause-results
returns-clause-results c =
    (told_both (procedure_of c.args.callee.now) c.args.given.now c.args.results.now c.new-store.result
    c.add_all.new.store c.add_all-2.new.store c.requires.distinct c.requires.given c.requires.results
    c.new-store.ensures
    (c.in_ok-add_all.ensures ∙ ap (λ os. c.new-store.result ++ entries_of (names os) c.args.given.now)
    c.as_slice.ensures.value)
    (c.in_ok-add_all-2.ensures
    ∙ ap (λ os. c.add_all.new.store ++ entries_of (names os) c.args.results.now) c.as_slice-2.ensures.value)).1
