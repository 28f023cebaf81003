use Rattle.std.proofs.Common.{◌≡◌, ap, arith, length, Some, None, refl, [], ◌∙◌, sym}
use Rattle.std.specs.Prelude.{slice_get}
use Rattle.gh_inst.specs.Instances.{instances}
use Rattle.gh_inst.proofs.InstanceLemmas.{drop_next, drop_none, there, few_instances}
use Rattle.gh_inst.proofs.instances.InstancesIterator.next.Goals as goal

pub returns-in_err-name-clause-steps : goal.returns-in_err-name-clause-steps
returns-in_err-name-clause-steps c =
    let s = c.self.inside in
    let none : slice_get (instances s.terms s.versions) s.place ≡ None =
    sym c.name_at_place.ensures ∙ c.in_err-name.was {u = tt} in
    let empty : c.args.self.now ≡ [] = sym c.self.view_is ∙ drop_none (instances s.terms s.versions) s.place none in
    rw (c.from_residual.ensures, empty) (refl, refl)

pub overflow_add-self : goal.overflow_add-self
overflow_add-self c =
    let s = c.self.inside in
    let found : slice_get (instances s.terms s.versions) s.place ≡ Some c.in_ok-name.name =
    sym c.name_at_place.ensures ∙ c.in_ok-name.was {u = tt} in
    let below = there (instances s.terms s.versions) s.place c.in_ok-name.name found in
    let few = few_instances s.terms s.versions (omega arith) (omega arith) in
    omega (arith, below, few)

pub returns-clause-steps : goal.returns-clause-steps
returns-clause-steps c =
    let s = c.self.inside in
    let found : slice_get (instances s.terms s.versions) s.place ≡ Some c.in_ok-name.name =
    sym c.name_at_place.ensures ∙ c.in_ok-name.was {u = tt} in
    sym c.self.view_is ∙ drop_next (instances s.terms s.versions) s.place c.in_ok-name.name found

pub returns-clause-goes : goal.returns-clause-goes
returns-clause-goes c =
    let s = c.self.inside in
    let found : slice_get (instances s.terms s.versions) s.place ≡ Some c.in_ok-name.name =
    sym c.name_at_place.ensures ∙ c.in_ok-name.was {u = tt} in
    let e = sym c.self.view_is ∙ drop_next (instances s.terms s.versions) s.place c.in_ok-name.name found in
    record { on = λ f. (tt, tt, omega (arith, ap length e)); keeps = tt; rests = λ f. tt }
