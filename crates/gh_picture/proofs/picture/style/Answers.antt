use Rattle.std.specs.Prelude.{◌≡◌, ℕ, List, [], ◌∷◌, ◌++◌, codes}
use Rattle.std.proofs.Common.{◌∙◌, ap}
use Rattle.std.proofs.lemmas.Result.{IfOk-weaker}
use Rattle.gh_picture.specs.Looks.{style_text, style_group}
use Rattle.gh_picture.specs.Shapes.{group_of}
use Rattle.gh_picture.specs.declared.tree.Attribute.{Attribute}
use Rattle.gh_picture.specs.declared.tree.Leaf.{Leaf}
use Rattle.gh_picture.specs.declared.tree.Tag.TheVariants as tag
use Rattle.gh_picture.proofs.picture.style.Goals as goal

abbrev sheet : List Attribute → List ℕ → List Leaf
sheet attributes text = record { tag = tag.Style; attributes = attributes; text = text } ∷ []

pub returns : goal.returns
returns c =
    let text : c.push.new.self ≡ style_text =
    c.in_ok-push.ensures.ok ∙ ap (λ (t : List ℕ). t ++ style_text) c.new-text.ensures in
    let leaves : c.in_ok-with.field-0 ≡ sheet [] style_text =
    c.in_ok-with.ensures ∙ ap (λ (ls : List Leaf). ls ++ sheet c.new.result c.push.new.self) c.new-2.ensures
    ∙ ap (λ (bs : List Attribute). sheet bs c.push.new.self) c.new.ensures ∙ ap (λ (t : List ℕ). sheet [] t) text in
    IfOk-weaker c.group.result _ (λ g. g ≡ style_group)
    (λ g e. e ∙ ap (λ (ls : List Leaf). group_of (codes "style") ls) leaves) c.group.ensures
