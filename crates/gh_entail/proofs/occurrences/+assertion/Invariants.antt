use Rattle.std.proofs.Common.{◌≡◌, ◌++◌, map, drop}
use Rattle.gh_ast.specs.Occurrences.{in_assertions}
use Rattle.gh_ast.specs.Plain.{assertions_view}
use Rattle.gh_entail.proofs.occurrences.+assertion.Given as goal

abbrev pub invariant-add_assertions-loop-assertion : goal.invariant-add_assertions-loop-assertion
invariant-add_assertions-loop-assertion l =
    map (λ o. o.now) l.found.items ++ in_assertions (assertions_view (drop l.assertion-index l.assertions))
    ≡ map (λ o. o.now) l.initial.found.items ++ in_assertions (assertions_view l.assertions)
