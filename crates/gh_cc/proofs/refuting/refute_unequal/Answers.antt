use Rattle.std.proofs.Common.{◌≡◌, ◌∙◌, List, [], ◌∷◌, ◌++◌, ap}
use Rattle.gh_base.specs.declared.atom.Lit.{Lit}
use Rattle.gh_cc.specs.Asserted.{equality}
use Rattle.gh_cc.proofs.RefuteLemmas.{unequal_conflict}
use Rattle.gh_cc.proofs.refuting.refute_unequal.Goals as goal

pub returns : goal.returns
returns c =
    let begun : c.push.new.self ≡ equality c.args.a c.args.b ∷ [] = c.in_ok-push.ensures.ok
    ∙ ap (λ (x : List Lit). x ++ equality c.args.a c.args.b ∷ []) c.new-clause.ensures in
    unequal_conflict c.args.sizes c.args.lits.now c.args.partition.now c.args.a c.args.b _ _ c.requires.linked
    c.requires.there begun c.in_ok-explain.ensures
