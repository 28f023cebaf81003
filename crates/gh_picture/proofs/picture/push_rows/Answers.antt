use Rattle.std.specs.Prelude.{◌≡◌, ℕ, ◌+◌, max, List, [], ◌∷◌, ◌++◌, take}
use Rattle.std.proofs.Common.{sym, subst, arith}
use Rattle.std.proofs.lemmas.Grind.{common_steps}
use Rattle.gh_picture.specs.Pictures.{AddsPanels}
use Rattle.gh_picture.specs.declared.tree.Panel.{Panel}
use Rattle.gh_picture.proofs.PanelLemmas.{adds_more}
use Rattle.gh_picture.proofs.picture.push_rows.Goals as goal

pub loop-row-preserved : goal.loop-row-preserved
loop-row-preserved c =
    let rows = c.args.rows.now in
    let i = c.loop-row.row-index in
    let old = c.args.panels.now in
    let least = c.args.columns in
    let d = c.in_ok-drawn.drawn in
    let e = c.loop-row.extent in
    let wide : max e.columns d.columns ≡ c.max.result = grind (arith, common_steps) in
    subst (λ (ps : List Panel). AddsPanels (take (i + 1) rows) least old ps d.below c.max.result)
    (sym c.in_ok-push.ensures)
    (subst (λ (n : ℕ). AddsPanels (take (i + 1) rows) least old (c.loop-row.panels ++ d.panel ∷ []) d.below n) wide
    (adds_more rows i c.row-item.result least old c.loop-row.panels d.panel e.lines d.below d.columns e.columns
    c.row-item.is c.loop-row-test.true c.loop-row.invariant c.in_ok-drawn.ensures))
