use Rattle.std.specs.Prelude.{◌≡◌}
use Rattle.std.proofs.Common.{sym, subst}
use Rattle.std.proofs.lemmas.Result.{IfOk-weaker}
use Rattle.gh_picture.specs.Elements.{IsElement}
use Rattle.gh_picture.specs.Pictures.{IsPicture}
use Rattle.gh_picture.specs.Written.{svg_text}
use Rattle.gh_picture.proofs.WellFormed.{tree_element}
use Rattle.gh_picture.proofs.picture.picture.Goals as goal

pub returns : goal.returns
returns c =
    let tree = c.in_ok-tree.tree in
    IfOk-weaker c.write.result (λ t. t ≡ svg_text tree) (IsPicture c.args.scene.now)
    (λ t e. record {
      tree = tree;
      written = e;
      of_scene = c.in_ok-tree.ensures;
      well_formed = subst IsElement (sym e) (tree_element tree);
    })
    c.write.ensures
