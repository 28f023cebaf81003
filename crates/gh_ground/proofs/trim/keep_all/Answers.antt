use Rattle.std.proofs.Common.{◌≡◌, ◌∙◌, take, take_all, subst, arith}
use Rattle.gh_ground.specs.Trimming.{AreKeptBefore}
use Rattle.gh_ground.proofs.TrimLemmas.{kept_more, only_more}
use Rattle.gh_ground.proofs.trim.keep_all.Goals as goal

pub loop-position-preserved : goal.loop-position-preserved
loop-position-preserved c =
    let first = c.args.kept.now.items in
    let old = c.loop-position.kept.items in
    let new = c.keep.new.kept.items in
    let positions = c.args.positions.now in
    let i = c.loop-position.invariant in
    let e = c.keep.ensures in
    record {
      long = e.long ∙ i.long;
      keeps = λ k is. e.keeps k (i.keeps k is);
      later = λ k le. e.later k le ∙ i.later k le;
      all = kept_more old new c.args.place positions c.loop-position.position-index 0 c.loop-position-test.true e.keeps
          e.is i.all;
      only = only_more first old new c.args.place positions c.loop-position.position-index 0 c.loop-position-test.true
          i.only e.only;
    }

pub returns-clause-all : goal.returns-clause-all
returns-clause-all c =
    let positions = c.args.positions.now in
    let whole : take c.loop-position.position-index positions ≡ positions =
    take_all c.loop-position.position-index positions (omega arith) in
    subst (AreKeptBefore c.loop-position.kept.items c.args.place) whole c.loop-position.invariant.all
