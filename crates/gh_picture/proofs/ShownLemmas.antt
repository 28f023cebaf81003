-- The panel of a row shows each cell and each variable once.
use Rattle.std.specs.Prelude.{◌≡◌, ℕ, suc, Bool, List, [], ◌∷◌, ◌++◌, map, take, Option, Some, None}
use Rattle.std.specs.List.{flat_map}
use Rattle.std.specs.Fmt.{decimal}
use Rattle.std.specs.FinMap.{entries}
use Rattle.std.proofs.Common.{refl, sym, ◌∙◌, ap, subst}
use Rattle.std.proofs.lemmas.List.Concat.{flat_map-append}
use Rattle.gh_assert.specs.declared.heap.Cell.{Cell}
use Rattle.gh_assert.specs.declared.store.Entry.{Entry}
use Rattle.gh_picture.specs.Rows.{cells_of, cell_groups, variable_groups, role_at, change_at, link_of, target_to}
use Rattle.gh_picture.specs.Rows.{row_groups, IsPanelOf}
use Rattle.gh_picture.specs.Shapes.{cell_group, variable_group}
use Rattle.gh_picture.specs.Shown.{text_in, texts_in, is_place, is_name, name_text, ShowsEach}
use Rattle.gh_picture.specs.Spots.{number_in, spot_at}
use Rattle.gh_picture.specs.declared.layout.Spot.{Spot}
use Rattle.gh_picture.specs.declared.scene.Change.{Change}
use Rattle.gh_picture.specs.declared.scene.Role.{Role}
use Rattle.gh_picture.specs.declared.scene.Row.{Row}
use Rattle.gh_picture.specs.declared.shapes.Link.{Link}
use Rattle.gh_picture.specs.declared.shapes.Link.TheVariants as link
use Rattle.gh_picture.specs.declared.tree.Group.{Group}
use Rattle.gh_picture.specs.declared.tree.Panel.{Panel}

append_texts : (asks : List ℕ → Bool) (gs hs : List Group)
    → texts_in asks (gs ++ hs) ≡ texts_in asks gs ++ texts_in asks hs
append_texts asks gs hs = flat_map-append (λ (g : Group). flat_map (text_in asks) g.leaves) gs hs

place_of_cell : (c : Cell) (r : Role) (s : Spot) (l : Link) (gs : List Group)
    → texts_in is_place (cell_group c r s l ∷ gs) ≡ decimal c.at ∷ texts_in is_place gs
place_of_cell c r s link.Null gs = refl
place_of_cell c r s link.Lost gs = refl
place_of_cell c r s link.Beside gs = refl
place_of_cell c r s (link.Back t) gs = refl
place_of_cell c r s (link.Jump t) gs = refl

no_name_of_cell : (c : Cell) (r : Role) (s : Spot) (l : Link) (gs : List Group)
    → texts_in is_name (cell_group c r s l ∷ gs) ≡ texts_in is_name gs
no_name_of_cell c r s link.Null gs = refl
no_name_of_cell c r s link.Lost gs = refl
no_name_of_cell c r s link.Beside gs = refl
no_name_of_cell c r s (link.Back t) gs = refl
no_name_of_cell c r s (link.Jump t) gs = refl

places_of_cells : (roles : List Role) (cells : List Cell) (spots : List Spot) (k : ℕ) (cs : List Cell)
    → texts_in is_place (cell_groups roles cells spots k cs) ≡ map (λ c. decimal c.at) cs
places_of_cells roles cells spots k [] = refl
places_of_cells roles cells spots k (c ∷ cs) =
    place_of_cell c (role_at roles k) (spot_at spots k) (link_of cells spots k)
    (cell_groups roles cells spots (suc k) cs) ∙
    ap (λ (ts : List (List ℕ)). decimal c.at ∷ ts) (places_of_cells roles cells spots (suc k) cs)

no_names_of_cells : (roles : List Role) (cells : List Cell) (spots : List Spot) (k : ℕ) (cs : List Cell)
    → texts_in is_name (cell_groups roles cells spots k cs) ≡ []
no_names_of_cells roles cells spots k [] = refl
no_names_of_cells roles cells spots k (c ∷ cs) =
    no_name_of_cell c (role_at roles k) (spot_at spots k) (link_of cells spots k)
    (cell_groups roles cells spots (suc k) cs) ∙ no_names_of_cells roles cells spots (suc k) cs

no_place_of_variable : (cells : List Cell) (spots : List Spot) (seen : List Entry) (e : Entry) (m : Change)
    (o : Option ℕ) (gs : List Group)
    → texts_in is_place (variable_group e m (target_to cells spots seen e.value o) ∷ gs) ≡ texts_in is_place gs
no_place_of_variable cells spots seen e m None gs = refl
no_place_of_variable cells spots seen e m (Some j) gs = refl

name_of_variable : (cells : List Cell) (spots : List Spot) (seen : List Entry) (e : Entry) (m : Change) (o : Option ℕ)
    (gs : List Group)
    → number_in cells e.value ≡ o
    → texts_in is_name (variable_group e m (target_to cells spots seen e.value o) ∷ gs)
    ≡ name_text cells e ∷ texts_in is_name gs
name_of_variable cells spots seen e m None gs is = rw is refl
name_of_variable cells spots seen e m (Some j) gs is = rw is refl

no_places_of_variables : (changes : List Change) (cells : List Cell) (spots : List Spot) (es : List Entry) (k : ℕ)
    (fs : List Entry)
    → texts_in is_place (variable_groups changes cells spots es k fs) ≡ []
no_places_of_variables changes cells spots es k [] = refl
no_places_of_variables changes cells spots es k (f ∷ fs) =
    no_place_of_variable cells spots (take k es) f (change_at changes k) (number_in cells f.value)
    (variable_groups changes cells spots es (suc k) fs) ∙
    no_places_of_variables changes cells spots es (suc k) fs

names_of_variables : (changes : List Change) (cells : List Cell) (spots : List Spot) (es : List Entry) (k : ℕ)
    (fs : List Entry)
    → texts_in is_name (variable_groups changes cells spots es k fs) ≡ map (name_text cells) fs
names_of_variables changes cells spots es k [] = refl
names_of_variables changes cells spots es k (f ∷ fs) =
    name_of_variable cells spots (take k es) f (change_at changes k) (number_in cells f.value)
    (variable_groups changes cells spots es (suc k) fs) refl ∙
    ap (λ (ts : List (List ℕ)). name_text cells f ∷ ts) (names_of_variables changes cells spots es (suc k) fs)

places_of_pairs : (ps : List (ℕ × ℕ))
    → map (λ (c : Cell). decimal c.at) (map (λ p. record { at = p.0; to = p.1 }) ps) ≡ map (λ p. decimal p.0) ps
places_of_pairs [] = refl
places_of_pairs (p ∷ ps) = ap (λ (ts : List (List ℕ)). decimal p.0 ∷ ts) (places_of_pairs ps)

append_none : (ts : List (List ℕ)) → ts ++ [] ≡ ts
append_none [] = refl
append_none (t ∷ ts) = ap (λ (us : List (List ℕ)). t ∷ us) (append_none ts)

shown : (row : Row) (spots : List Spot) → ShowsEach row (row_groups row spots)
shown row spots =
    let cells = cells_of row.state.heap in
    let boxes = cell_groups row.roles.items cells spots 0 cells in
    let labels = variable_groups row.changes.items cells spots row.state.store 0 row.state.store in
    let places : texts_in is_place (boxes ++ labels) ≡ map (λ p. decimal p.0) (entries row.state.heap) =
    append_texts is_place boxes labels
    ∙ ap (λ (ts : List (List ℕ)). texts_in is_place boxes ++ ts)
    (no_places_of_variables row.changes.items cells spots row.state.store 0 row.state.store) ∙
    append_none (texts_in is_place boxes) ∙ places_of_cells row.roles.items cells spots 0 cells
    ∙ places_of_pairs (entries row.state.heap) in
    let names : texts_in is_name (boxes ++ labels) ≡ map (name_text cells) row.state.store =
    append_texts is_name boxes labels
    ∙ ap (λ (ts : List (List ℕ)). ts ++ texts_in is_name labels)
    (no_names_of_cells row.roles.items cells spots 0 cells) ∙
    names_of_variables row.changes.items cells spots row.state.store 0 row.state.store in record {
      places = places;
      names = names;
    }

pub shows_each : (row : Row) (top below columns : ℕ) (panel : Panel) → IsPanelOf row top below columns panel
    → ShowsEach row panel.groups
shows_each row top below columns panel is =
    subst (λ (gs : List Group). ShowsEach row gs) (sym is.groups) (shown row is.spots)
