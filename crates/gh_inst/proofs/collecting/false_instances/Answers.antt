use Rattle.std.proofs.Common.{◌∙◌, [], arith, sym}
use Rattle.gh_base.specs.Structures.{interpretation_of}
use Rattle.gh_inst.specs.Collecting.{VersionHolds, place}
use Rattle.gh_inst.proofs.CollectingLemmas.{version_next, versions_hold}
use Rattle.gh_inst.proofs.UpLemmas.{up_distinct}
use Rattle.gh_inst.proofs.FirstLemmas.{named_versions, first_named}
use Rattle.gh_inst.proofs.collecting.false_instances.Goals as goal

pub loop-version-preserved : goal.loop-version-preserved
loop-version-preserved c =
    let s = c.args.structure.now in
    let m = interpretation_of s in
    let k = c.loop-version.version in
    let e = c.in_ok-gather_version.ensures in
    record {
      gathers =
          version_next s.sizes m [] c.loop-version.found.items c.gather_version.new.found.items k
          c.loop-version.invariant.gathers e.gathers;
      named =
          named_versions s.sizes m k (VersionHolds s.sizes m k) c.loop-version.found.items
          c.gather_version.new.found.items e.gathers c.loop-version.invariant.named e.named;
      up = e.up c.loop-version.invariant.up;
    }

pub returns-clause-named : goal.returns-clause-named
returns-clause-named c = λ version below. c.loop-version.invariant.named version (omega (arith, below))

pub returns-clause-first : goal.returns-clause-first
returns-clause-first c =
    let s = c.args.structure.now in
    first_named s.sizes (interpretation_of s) c.loop-version.found.items
    (λ version below. c.loop-version.invariant.named version (omega (arith, below)))

pub returns-clause-none : goal.returns-clause-none
returns-clause-none c = λ e.
    let s = c.args.structure.now in
    versions_hold s.sizes (interpretation_of s)
    (λ v below. c.loop-version.invariant.gathers.none (sym c.loop-version.invariant.gathers.added ∙ e) v
    (omega (arith, below)))

pub returns-clause-once : goal.returns-clause-once
returns-clause-once c =
    up_distinct (place c.loop-version.version 0 0 0) c.loop-version.found.items c.loop-version.invariant.up
