use Rattle.std.proofs.Common.{◌≡◌, ◌++◌, ℕ, length, sym, ◌∙◌, ap, subst, map}
use Rattle.gh_ast.specs.Plain.{assertion_of, assertions_view, star}
use Rattle.gh_ast.proofs.PlainLemmas.{formula_of-Star}
use Rattle.gh_grass.specs.Bindings.{bound_term, next_term}
use Rattle.gh_grass.specs.Claims.{ground_formula_list}
use Rattle.gh_grass.specs.Footprints.{all_apart}
use Rattle.gh_grass.proofs.ClaimLemmas.{star_structure}
use Rattle.gh_grass.proofs.footprint.+structure.Goals as goal

pub structure_of-returns-in_ok-push_all_apart-in-Star :
    goal.structure_of-returns-in_ok-push_all_apart-in-Star
structure_of-returns-in_ok-push_all_apart-in-Star t c =
    let b = bound_term c.args.binding.now in
    let xs = c.as_slice-members.result.now in
    let first = ground_formula_list c.in_ok-formulas-in-Star.formulas.items in
    let pushed = c.push_all_apart.new.formulas in
    star_structure pushed (assertion_of c.args.assertion.now) b (next_term c.args.terms.now c.args.version)
    c.args.version (length c.args.terms.now) xs first
    (ap assertion_of c.in-Star.is ∙ formula_of-Star c.in-Star.members
    ∙ ap (λ ys. star (assertions_view ys)) (sym c.as_slice-members.ensures.value))
    c.in_ok-formulas-in-Star.ensures
    (subst (λ (n : ℕ). ground_formula_list pushed.items ≡ first ++ all_apart b c.args.version n (map assertion_of xs))
    c.count.ensures c.in_ok-push_all_apart-in-Star.ensures)
