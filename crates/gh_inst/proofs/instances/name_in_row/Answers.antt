use Rattle.std.proofs.Common.{◌^◌, ◌∙◌, ap, sym}
use Rattle.gh_inst.proofs.InstanceLemmas.{row_place}
use Rattle.gh_inst.proofs.instances.name_in_row.Goals as goal

pub returns : goal.returns
returns c = λ r en ev.
    let a = c.args in
    row_place a.terms a.versions r a.count a.place (c.requires.all ∙ ap (λ v. a.terms ^ v) (sym ev)) c.requires.within
    ∙ rw (en, ev) c.name_in_version.ensures
