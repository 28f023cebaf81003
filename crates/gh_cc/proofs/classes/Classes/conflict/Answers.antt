use Rattle.std.proofs.Common.{List, sym, subst}
use Rattle.gh_base.specs.declared.atom.Lit.{Lit}
use Rattle.gh_cc.specs.Kept.{IsKept, AreLinked, IsClash, reps}
use Rattle.gh_cc.specs.Fields.{core_of}
use Rattle.gh_cc.proofs.AssertLemmas.{tied_now, filed_now, clash_now}
use Rattle.gh_cc.proofs.ConsistentLemmas.{filed_consistent}
use Rattle.gh_cc.proofs.classes.Classes.conflict.Goals as goal

pub refutation-requires-clause-linked : goal.refutation-requires-clause-linked
refutation-requires-clause-linked c =
    let core = core_of c.self.inside in
    let kept : IsKept core = c.self.invariant.0 in
    subst (λ (ls : List Lit). AreLinked core.sizes ls c.self.inside.partition) (sym c.as_slice-lits.ensures.value)
    (record { in_range = kept.in_range; terms = c.self.invariant.1.0; linked = (tied_now core kept).linked })

pub refutation-requires-clause-clash : goal.refutation-requires-clause-clash
refutation-requires-clause-clash c =
    let core = core_of c.self.inside in
    let kept : IsKept core = c.self.invariant.0 in
    subst (λ (ls : List Lit). IsClash (reps core.links) ls c.in-Some.found.clash) (sym c.as_slice-lits.ensures.value)
    (clash_now core kept c.in-Some.found c.in-Some.is)

pub returns-in-None-clause-none : goal.returns-in-None-clause-none
returns-in-None-clause-none c =
    let core = core_of c.self.inside in
    let kept : IsKept core = c.self.invariant.0 in
    rw (← c.self.view_is)
    (filed_consistent core.sizes core.lits core.links core.entries (filed_now core kept c.in-None.is))
