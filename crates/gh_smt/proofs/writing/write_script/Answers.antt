use Rattle.std.proofs.Common.{◌∙◌, ap}
use Rattle.gh_base.specs.declared.sizes.Sizes.{Sizes}
use Rattle.gh_smt.specs.Texts.{term_declared, version_declared, definition_declared}
use Rattle.gh_smt.proofs.Adding.{six, as_many, all_of}
use Rattle.gh_smt.proofs.writing.write_script.Goals as goal

pub returns : goal.returns
returns c =
    let e = c.sizes-sizes.ensures in
    six _ _ _ _ _ _ _ _ _ _ _ _ _ c.new-out.ensures c.in_ok-put.ensures
    (as_many term_declared _ _ _ _ (c.from.ensures ∙ ap (λ (s : Sizes). s.terms) e) c.in_ok-put_all_declared.ensures)
    (as_many version_declared _ _ _ _ (c.from-2.ensures ∙ ap (λ (s : Sizes). s.versions) e)
    c.in_ok-put_all_declared-2.ensures)
    (as_many definition_declared _ _ _ _ (ap (λ (s : Sizes). s.defs) e) c.in_ok-put_all_declared-3.ensures)
    (all_of _ _ _ _ c.asserted.ensures c.in_ok-put_assertions.ensures)
    c.in_ok-put-2.ensures
