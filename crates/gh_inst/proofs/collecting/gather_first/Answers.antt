use Rattle.std.proofs.Common.{◌≡◌, ◌-◌, ◌∷◌, [], ◌++◌, ◌∙◌, sym, ap, subst, take, Some, option_map}
use Rattle.gh_base.specs.Structures.{interpretation_of}
use Rattle.gh_inst.specs.Instances.{name_of}
use Rattle.gh_inst.specs.Search.{IsSearched, IsRowTrue, tuples_with}
use Rattle.gh_inst.specs.Collecting.{IsFalseInstance, GathersIn}
use Rattle.gh_inst.proofs.CollectingLemmas.{found_false}
use Rattle.gh_inst.proofs.FirstLemmas.{at_none, at_one}
use Rattle.gh_inst.proofs.UpLemmas.{one_more}
use Rattle.gh_inst.specs.declared.naming.InstanceName.{InstanceName}
use Rattle.gh_inst.proofs.collecting.gather_first.Goals as goal

pub returns-in_ok-push-clause-gathers : goal.returns-in_ok-push-clause-gathers
returns-in_ok-push-clause-gathers c =
    let r = c.args.row.now in
    let l = c.requires.looked in
    let s = r.structure.now in
    let m = interpretation_of s in
    let some : option_map (take r.variables) c.first_in.result ≡ Some (take r.variables c.in-Some.terms) =
    ap (option_map (take r.variables)) c.in-Some.is in
    let searched = subst (IsSearched (IsRowTrue m r.version r.lits.now)
    (tuples_with (r.variables - c.args.first) s.sizes.terms (take c.args.first c.args.start))) some
    c.first_in.ensures in
    let is : IsFalseInstance s.sizes m (name_of r.number r.version (take r.variables c.in-Some.terms)) =
    found_false s.sizes m r.number r.version r.variables c.args.first r.lits.now (take c.args.first c.args.start)
    (take r.variables c.in-Some.terms) l.row_is l.version_there c.requires.first c.requires.long c.requires.terms
    searched in
    subst (GathersIn r (take c.args.first c.args.start) (r.variables - c.args.first) c.args.found.now.items)
    (sym (c.in_ok-push.ensures.items
    ∙ ap (λ (n : InstanceName). c.args.found.now.items ++ n ∷ []) c.name_of_terms.ensures))
    (at_one r (tuples_with (r.variables - c.args.first) s.sizes.terms (take c.args.first c.args.start))
    c.args.found.now.items (take r.variables c.in-Some.terms) searched.comes is)

pub returns-in_default-clause-gathers : goal.returns-in_default-clause-gathers
returns-in_default-clause-gathers c =
    let r = c.args.row.now in
    at_none r (tuples_with (r.variables - c.args.first) r.structure.now.sizes.terms (take c.args.first c.args.start))
    c.args.found.now.items r.variables c.first_in.result c.first_in.ensures
    (λ t e. c.in_default.not-Some t e)

pub returns-in_ok-push-clause-one : goal.returns-in_ok-push-clause-one
returns-in_ok-push-clause-one c =
    let r = c.args.row.now in
    let s = r.structure.now in
    let m = interpretation_of s in
    let some : option_map (take r.variables) c.first_in.result ≡ Some (take r.variables c.in-Some.terms) =
    ap (option_map (take r.variables)) c.in-Some.is in
    let searched = subst (IsSearched (IsRowTrue m r.version r.lits.now)
    (tuples_with (r.variables - c.args.first) s.sizes.terms (take c.args.first c.args.start))) some
    c.first_in.ensures in
    one_more r s.sizes.terms c.args.first (take c.args.first c.args.start) (take r.variables c.in-Some.terms)
    c.args.found.now.items c.push.new.self.items c.requires.first c.requires.long searched.comes
    (c.in_ok-push.ensures.items ∙ ap (λ (n : InstanceName). c.args.found.now.items ++ n ∷ []) c.name_of_terms.ensures)
