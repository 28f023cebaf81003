use Rattle.std.proofs.Common.{◌∙◌, sym, ap, Some}
use Rattle.gh_symb.specs.Tables.{bound_by, IsLastAt, NoneFrom}
use Rattle.gh_symb.specs.declared.scope.Entry.{Entry}
use Rattle.gh_symb.proofs.TableLemmas.{last_term, lacks_term}
use Rattle.gh_symb.proofs.scope.Scope.get.Goals as goal

pub returns-in-Some : goal.returns-in-Some
returns-in-Some c =
    let es = c.self.inside.entries.items in
    let at : IsLastAt es c.args.name.now c.in-Some.place =
    rw (c.as_slice.ensures.value, c.bytes.ensures.text) at c.in-Some.ensures.found in
    ap (λ (e : Entry). Some e.term) c.index.ensures
    ∙ sym (last_term es c.args.name.now c.in-Some.place c.index.result.now at)
    ∙ ap (λ bs. bound_by bs c.args.name.now) c.self.view_is

pub returns-in-None : goal.returns-in-None
returns-in-None c =
    let es = c.self.inside.entries.items in
    let none : NoneFrom es c.args.name.now 0 =
    rw (c.as_slice.ensures.value, c.bytes.ensures.text) at c.in-None.ensures.missing in
    sym (lacks_term es c.args.name.now none) ∙ ap (λ bs. bound_by bs c.args.name.now) c.self.view_is
