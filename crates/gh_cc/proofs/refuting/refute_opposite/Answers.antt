use Rattle.std.proofs.Common.{◌≡◌, ◌∙◌, List, [], ◌∷◌, ◌++◌, ap}
use Rattle.gh_base.specs.declared.atom.Lit.{Lit}
use Rattle.gh_base.specs.Atoms.{opposite}
use Rattle.gh_cc.proofs.RefuteLemmas.{opposite_conflict}
use Rattle.gh_cc.proofs.refuting.refute_opposite.Goals as goal

pub returns : goal.returns
returns c =
    let one : c.push.new.self ≡ opposite c.args.one ∷ [] =
    c.in_ok-push.ensures.ok ∙ ap (λ (x : List Lit). x ++ c.negated.result ∷ []) c.new-clause.ensures
    ∙ ap (λ (l : Lit). l ∷ []) c.negated.ensures in
    let begun : c.push-2.new.self ≡ opposite c.args.one ∷ opposite c.args.other ∷ [] =
    c.in_ok-push-2.ensures.ok ∙ ap (λ (x : List Lit). x ++ c.negated-2.result ∷ []) one
    ∙ ap (λ (l : Lit). opposite c.args.one ∷ l ∷ []) c.negated-2.ensures in
    opposite_conflict c.args.sizes c.args.lits.now c.args.partition.now c.args.one c.args.other _ _ c.requires.linked
    c.requires.one c.requires.other c.requires.signs begun c.in_ok-explain_atoms.ensures
