use Rattle.std.proofs.Common.{◌≡◌, ◌-◌, ◌+◌, ◌∙◌, sym, subst, None, take, arith}
use Rattle.std.specs.List.{flat_map}
use Rattle.gh_base.specs.Structures.{interpretation_of}
use Rattle.gh_inst.specs.Table.{table}
use Rattle.gh_inst.specs.Instances.{row_instances, instances}
use Rattle.gh_inst.specs.Violations.{IsInstanceTrue}
use Rattle.gh_inst.specs.Search.{IsSearched}
use Rattle.gh_inst.proofs.InstanceLemmas.{row_at}
use Rattle.gh_inst.proofs.SearchLemmas.{found_in_block, none_in_block, blocks_end, none_found, first_found}
use Rattle.gh_inst.proofs.ViolationLemmas.{row_of_number}
use Rattle.gh_inst.proofs.violation.violated.Goals as goal

found_there : (c : goal.Then-is_some)
    → IsSearched (IsInstanceTrue (interpretation_of c.args.structure.now))
    (instances c.args.structure.now.sizes.terms c.args.structure.now.sizes.versions) c.first_in_row-found.result
found_there c =
    let s = c.args.structure.now in
    let number = c.loop-number.number in
    let r = row_of_number number (omega arith) (omega arith) in
    found_in_block (IsInstanceTrue (interpretation_of s)) (row_instances s.sizes.terms s.sizes.versions) table
    (number - 1) (row_at (number - 1)) c.first_in_row-found.result (sym c.is_some.ensures ∙ c.if-is_some.true)
    r.0 c.loop-number.invariant (c.first_in_row-found.ensures (row_at (number - 1)) r.1)

pub returns-then-is_some-clause-first : goal.returns-then-is_some-clause-first
returns-then-is_some-clause-first c =
    let s = c.args.structure.now in
    first_found (IsInstanceTrue (interpretation_of s)) (instances s.sizes.terms s.sizes.versions)
    c.first_in_row-found.result (found_there c)

pub returns-then-is_some-clause-none : goal.returns-then-is_some-clause-none
returns-then-is_some-clause-none c =
    let s = c.args.structure.now in
    none_found (IsInstanceTrue (interpretation_of s)) (instances s.sizes.terms s.sizes.versions)
    c.first_in_row-found.result (found_there c)

pub loop-number-preserved : goal.loop-number-preserved
loop-number-preserved c =
    let s = c.args.structure.now in
    let number = c.loop-number.number in
    let r = row_of_number number (omega arith) (omega arith) in
    let same : number - 1 + 1 ≡ number + 1 - 1 = omega arith in
    subst (λ k. IsSearched (IsInstanceTrue (interpretation_of s))
    (flat_map (row_instances s.sizes.terms s.sizes.versions) (take k table)) None) same
    (none_in_block (IsInstanceTrue (interpretation_of s)) (row_instances s.sizes.terms s.sizes.versions) table
    (number - 1) (row_at (number - 1)) c.first_in_row-found.result (sym c.is_some.ensures ∙ c.if-is_some.false)
    r.0 c.loop-number.invariant (c.first_in_row-found.ensures (row_at (number - 1)) r.1))

pub returns-clause-none : goal.returns-clause-none
returns-clause-none c =
    let s = c.args.structure.now in
    none_found (IsInstanceTrue (interpretation_of s)) (instances s.sizes.terms s.sizes.versions) None
    (blocks_end (IsInstanceTrue (interpretation_of s)) (row_instances s.sizes.terms s.sizes.versions) table
    (c.loop-number.number - 1) (omega arith) c.loop-number.invariant)
