use Rattle.std.proofs.Common.{rules, ◌≡◌, ◌≤◌, ◌-◌, arith, length, subst, refl, sym, All, drop, take_all}
use Rattle.std.proofs.lemmas.List.{length-drop}
use Rattle.gh_base.specs.Atoms.{AreInRange}
use Rattle.gh_inst.specs.Instances.{IsInstance, IsPadded, clause_of}
use Rattle.gh_inst.proofs.RangeLemmas.{padded_by, instance_in_range}
use Rattle.gh_inst.proofs.naming.instance.Goals as goal

there : (c : goal.After-clause) → IsInstance c.args.terms c.args.versions c.args.name
there c =
    let four : length c.args.name.terms ≡ 4 = search in
    let few : c.args.name.arity ≤ 4 = search rules in
    let past = drop c.args.name.arity c.args.name.terms in
    let zero_there : All (λ t. t.0 ≡ 0) past =
    subst (All (λ t. t.0 ≡ 0))
    (take_all (length c.args.name.terms - c.args.name.arity) past
    (omega (arith, length-drop c.args.name.arity c.args.name.terms))) (c.are_zero.ensures.0 search) in
    let padded : IsPadded c.args.name = padded_by c.args.name four few zero_there in
    record { row = search rules; version = search rules; terms = search rules; padded = padded }

pub returns-clause-exact : goal.returns-clause-exact
returns-clause-exact c = (λ _. there c, λ _. refl)

pub returns-clause-in_range : goal.returns-clause-in_range
returns-clause-in_range c = λ s terms versions.
    let is : IsInstance s.terms s.versions c.args.name = rw (terms, versions) (there c) in
    let clause : c.clause.result ≡ clause_of c.args.name = search rules in
    subst (AreInRange s) (sym clause) (instance_in_range s c.args.name is)
