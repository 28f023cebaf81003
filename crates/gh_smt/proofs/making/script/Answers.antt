use Rattle.std.proofs.Common.{◌≡◌, subst, arith}
use Rattle.gh_symb.specs.Encoded.{plain_of}
use Rattle.gh_smt.specs.Scripts.{IsSized, script_of}
use Rattle.gh_smt.proofs.MakingLemmas.{made, short_enough, terms_are, versions_are}
use Rattle.gh_smt.proofs.CountLemmas.{is_script}
use Rattle.gh_smt.proofs.ScriptLemmas.{script_decides}
use Rattle.gh_smt.proofs.making.script.Goals as goal

pub returns : goal.returns
returns c =
    let s = c.args.symbolic.now in let proc = c.args.ground.now in
    let terms =
    terms_are s proc c.terms.result.now c.count-terms.result c.count-terms.ensures c.terms.ensures c.requires in
    let versions = versions_are s proc c.versions-versions.result c.versions-versions.ensures c.requires in
    let same : c.new.result ≡ script_of proc =
    made proc c.new.result c.sizes-sizes.result c.count-terms.result c.versions-versions.result _ _ _
    c.sizes-sizes.ensures.sizes terms versions c.in_ok-asserted.ensures.items c.in_ok-add_clauses.ensures
    c.in_ok-add_instances.ensures c.new.ensures in
    let sized : IsSized c.sizes-sizes.result =
    record { terms = omega arith; versions = omega arith; defs = omega arith } in
    record {
      short =
          short_enough proc _ _ _ _ _ c.from.ensures c.count.ensures.count c.count_instances.ensures.value terms
          versions c.if-count-gt-MOST.false;
      is = same;
      written =
          is_script (plain_of s) proc c.new.result c.requires c.sizes-sizes.ensures.valid
          (subst IsSized c.sizes-sizes.ensures.sizes sized) same;
      refused = tt;
      decides = λ P q d t is of e. script_decides P q d proc c.new.result t is of e c.sizes-sizes.ensures.valid same;
    }
