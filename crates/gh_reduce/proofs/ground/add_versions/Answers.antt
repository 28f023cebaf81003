use Rattle.std.proofs.Common.{map, arith}
use Rattle.gh_symb.specs.Formulas.{version_formulas, versions_formulas}
use Rattle.gh_symb.specs.Encodings.{plain_kind}
use Rattle.gh_reduce.proofs.GrowthLemmas.{numbers_more, same_versions}
use Rattle.gh_reduce.proofs.RowLemmas.{ready_stays}
use Rattle.gh_reduce.proofs.ground.add_versions.Goals as goal

pub add_version-requires : goal.add_version-requires
add_version-requires c =
    let p = c.args.ground.now in
    let q = c.loop-version.ground in
    let ks = map plain_kind c.args.terms.now in
    let fs = versions_formulas ks c.loop-version.version in
    let e = same_versions p q fs c.loop-version.invariant in
    record {
      version = omega (arith, e, c.versions-version-end.ensures);
      ready = ready_stays p q fs ks c.loop-version.invariant c.requires;
    }

pub loop-version-preserved : goal.loop-version-preserved
loop-version-preserved c =
    numbers_more (version_formulas (map plain_kind c.args.terms.now)) c.loop-version.version c.args.ground.now
    c.loop-version.ground c.add_version.new.ground c.loop-version.invariant c.in_ok-add_version.ensures.stated
