use Rattle.std.proofs.Common.{rules, ◌≡◌, [], sym, subst, Some, None}
use Rattle.gh_base.specs.Structures.{interpretation_of}
use Rattle.gh_inst.specs.declared.naming.InstanceName.{InstanceName}
use Rattle.gh_inst.specs.Instances.{instances}
use Rattle.gh_inst.specs.Violations.{IsInstanceTrue}
use Rattle.gh_inst.specs.Search.{IsSearched}
use Rattle.gh_inst.proofs.SearchLemmas.{none_found, first_found}
use Rattle.gh_inst.proofs.ViolationLemmas.{HasLeft, left_at_first, left_next, left_found, left_none, left_instance}
use Rattle.gh_inst.proofs.violation.violated_plainly.Goals as goal

pub loop-name-init : goal.loop-name-init
loop-name-init c =
    let s = c.args.structure.now in
    let P : InstanceName → Type 0 = IsInstanceTrue (interpretation_of s) in
    let all : c.into_iter-name-iterator.result ≡ instances s.sizes.terms s.sizes.versions = search rules in
    subst (HasLeft P (instances s.sizes.terms s.sizes.versions)) (sym all)
    (left_at_first P (instances s.sizes.terms s.sizes.versions))

pub is_instance_true-requires : goal.is_instance_true-requires
is_instance_true-requires c =
    let s = c.args.structure.now in
    left_instance (IsInstanceTrue (interpretation_of s)) s.sizes.terms s.sizes.versions c.next.new.self c.in-Some.name
    (subst (HasLeft (IsInstanceTrue (interpretation_of s)) (instances s.sizes.terms s.sizes.versions))
    (c.in-Some.ensures {u = tt}).steps c.loop-name.invariant)

found_there : (c : goal.Then-not-is_instance_true)
    → IsSearched (IsInstanceTrue (interpretation_of c.args.structure.now))
    (instances c.args.structure.now.sizes.terms c.args.structure.now.sizes.versions) (Some c.in-Some.name)
found_there c =
    let s = c.args.structure.now in
    left_found (IsInstanceTrue (interpretation_of s)) (instances s.sizes.terms s.sizes.versions) c.next.new.self
    c.in-Some.name (subst (HasLeft (IsInstanceTrue (interpretation_of s))
    (instances s.sizes.terms s.sizes.versions)) (c.in-Some.ensures {u = tt}).steps c.loop-name.invariant)
    (c.if-not-is_instance_true.ensures)

pub returns-then-not-is_instance_true-clause-first : goal.returns-then-not-is_instance_true-clause-first
returns-then-not-is_instance_true-clause-first c =
    let s = c.args.structure.now in
    first_found (IsInstanceTrue (interpretation_of s)) (instances s.sizes.terms s.sizes.versions) (Some c.in-Some.name)
    (found_there c)

pub returns-then-not-is_instance_true-clause-none : goal.returns-then-not-is_instance_true-clause-none
returns-then-not-is_instance_true-clause-none c =
    let s = c.args.structure.now in
    none_found (IsInstanceTrue (interpretation_of s)) (instances s.sizes.terms s.sizes.versions) (Some c.in-Some.name)
    (found_there c)

pub loop-name-preserved : goal.loop-name-preserved
loop-name-preserved c =
    let s = c.args.structure.now in
    left_next (IsInstanceTrue (interpretation_of s)) (instances s.sizes.terms s.sizes.versions) c.next.new.self
    c.in-Some.name (subst (HasLeft (IsInstanceTrue (interpretation_of s))
    (instances s.sizes.terms s.sizes.versions)) (c.in-Some.ensures {u = tt}).steps c.loop-name.invariant)
    (c.if-not-is_instance_true.ensures)

pub returns-clause-none : goal.returns-clause-none
returns-clause-none c =
    let s = c.args.structure.now in
    let empty : c.loop-name.name-iterator ≡ [] = search rules in
    none_found (IsInstanceTrue (interpretation_of s)) (instances s.sizes.terms s.sizes.versions) None
    (left_none (IsInstanceTrue (interpretation_of s)) (instances s.sizes.terms s.sizes.versions)
    (subst (HasLeft (IsInstanceTrue (interpretation_of s)) (instances s.sizes.terms s.sizes.versions)) empty
    c.loop-name.invariant))
