-- Panels that are added one after the other.
use Rattle.std.specs.Prelude.{◌≡◌, ℕ, ◌+◌, ◌<◌, max, List, [], ◌∷◌, ◌++◌, length, get_or, take}
use Rattle.std.proofs.Common.{refl, sym, ◌∙◌, ap, subst, append_assoc}
use Rattle.std.proofs.lemmas.List.{take_more}
use Rattle.gh_picture.specs.Rows.{IsPanelOf}
use Rattle.gh_picture.specs.Pictures.{ArePanelsOf, AddsPanels}
use Rattle.gh_picture.specs.declared.scene.Row.{Row}
use Rattle.gh_picture.specs.declared.tree.Panel.{Panel}

one_more : (top least : ℕ) (rows : List Row) (panels : List Panel) (row : Row) (panel : Panel)
    (next below own columns : ℕ)
    → ArePanelsOf top least rows panels next columns → IsPanelOf row next below own panel
    → ArePanelsOf top least (rows ++ row ∷ []) (panels ++ panel ∷ []) below (max columns own)
one_more top least [] panels row panel next below own columns (none, same, wide) is =
    subst (λ (ps : List Panel). ArePanelsOf top least (row ∷ []) (ps ++ panel ∷ []) below (max columns own)) (sym none) (
      panel,
      [],
      below,
      own,
      refl,
      subst (λ (n : ℕ). IsPanelOf row n below own panel) same is,
      (refl, refl, ap (λ (n : ℕ). max n own) wide),
    )
one_more top least (r ∷ rows) panels row panel next below own columns (p, rest, middle, first_own, whole, first, others)
    is = (
      p,
      rest ++ panel ∷ [],
      middle,
      first_own,
      ap (λ (ps : List Panel). ps ++ panel ∷ []) whole,
      first,
      one_more middle (max least first_own) rows rest row panel next below own columns others is,
    )

-- the panel of the next row is added
pub adds_more : (rows : List Row) (i : ℕ) (row : Row) (least : ℕ) (old mid : List Panel) (panel : Panel)
    (next below own columns : ℕ) → row ≡ get_or rows i row → i < length rows
    → AddsPanels (take i rows) least old mid next columns → IsPanelOf row next below own panel
    → AddsPanels (take (i + 1) rows) least old (mid ++ panel ∷ []) below (max columns own)
adds_more rows i row least old mid panel next below own columns is within adds shows = record {
  rest = adds.rest ++ panel ∷ [];
  whole = ap (λ (ps : List Panel). ps ++ panel ∷ []) adds.whole ∙ append_assoc old adds.rest (panel ∷ []);
  panels =
      subst (λ (rs : List Row). ArePanelsOf 0 least rs (adds.rest ++ panel ∷ []) below (max columns own))
      (ap (λ (r : Row). take i rows ++ r ∷ []) is ∙ sym (take_more rows i row within))
      (one_more 0 least (take i rows) adds.rest row panel next below own columns adds.panels shows);
}
