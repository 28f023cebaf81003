use Rattle.gh_cc.proofs.AssertLemmas.{tied_now}
use Rattle.gh_cc.proofs.SameLemmas.{same_terms}
use Rattle.gh_cc.specs.Fields.{core_of}
use Rattle.gh_cc.proofs.classes.Classes.same.Goals as goal

pub returns : goal.returns
returns c =
    let core = core_of c.self.inside in
    rw (← c.self.view_is)
    (same_terms core.sizes core.lits core.links core.entries c.args.a c.args.b c.class_of.result.0 c.class_of-2.result.0
    (tied_now core c.self.invariant.0) c.class_of.ensures c.class_of-2.ensures)
