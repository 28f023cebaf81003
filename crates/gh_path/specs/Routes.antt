-- A walk over the ways of a graph: the steps that were taken, and the ways that are still to come.
use Rattle.std.specs.Prelude.{◌≡◌, ℕ, zero, suc, ◌+◌, ◌*◌, ◌<◌, List, [], ◌∷◌, ◌++◌, map, Option, Some, None, slice_get}
use Rattle.gh_path.specs.Graphs.{Check, PathStep, Graph}
use Rattle.gh_path.specs.Paths.{Way, ways}
use Rattle.gh_path.specs.Shown.{step_shown, asked_of, Shows, LeadsBelow, step_from, steps_from, from, other_way}
use Rattle.gh_path.specs.declared.node.Asked.{Asked}
use Rattle.gh_path.specs.declared.node.Node.{Node}
use Rattle.gh_path.specs.declared.node.Origin.{Origin}
use Rattle.gh_path.specs.declared.route.Route.{Route}
use Rattle.gh_path.specs.declared.route.Taken.{Taken}
use Rattle.gh_path.specs.declared.route.Onward as onward
use Rattle.gh_path.specs.declared.route.Onward.TheVariants.{Back, Past}
use Rattle.gh_path.specs.declared.route.Onward.TheVariants as place
use Rattle.gh_path.specs.declared.route.Come.{Come}
use Rattle.gh_path.specs.declared.route.Come.TheVariants.{On, Found, Over}

abbrev pub way : List PathStep → Check → Way
way xs c = record { steps = xs; check = c }

-- some steps, and then the ways of a graph
abbrev pub ways_from : List PathStep → Graph → List Way
ways_from xs g = map (λ w. way (xs ++ w.steps) w.check) (ways g)

-- the steps that were taken
abbrev pub steps_taken : List Node → List Taken → List PathStep
steps_taken ns ts = steps_from ns (map (λ t. t.origin) ts)

-- the ways on which a comparison is false that was taken to be true after the steps xs
abbrev pub AreOthers : List Node → List PathStep → Origin → Option ℕ → List Way → Type 0
AreOthers ns xs o None ws = ws ≡ []
AreOthers ns xs o (Some i) ws =
    (g : Graph) × Shows ns i g × (ws ≡ ways_from (xs ++ step_shown (step_from ns (other_way o)) ∷ []) g)

-- the ways from the comparisons among the steps that were taken after xs
abbrev pub AreBehind : List Node → List PathStep → List Taken → List Way → Type 0
AreBehind ns xs [] ws = ws ≡ []
AreBehind ns xs (t ∷ ts) ws =
    (us : List Way) × (vs : List Way) × AreBehind ns (xs ++ step_shown (step_from ns t.origin) ∷ []) ts us
    × AreOthers ns xs t.origin t.other vs × (ws ≡ us ++ vs)

-- the ways from where the walk goes on
abbrev pub AreOnward : List Node → List PathStep → onward.Onward → List Way → Type 0
AreOnward ns xs Back ws = ws ≡ []
AreOnward ns xs (Past i j) ws =
    (g : Graph) × Shows ns j g × (ws ≡ ways_from (xs ++ step_shown (step_from ns (from i)) ∷ []) g)
AreOnward ns xs (place.Node i) ws = (g : Graph) × Shows ns i g × (ws ≡ ways_from xs g)

-- all ways that are still to come
pub record AreToCome (ns : List Node) (ts : List Taken) (o : onward.Onward) (ws : List Way) : Type 0 where
  pub ahead : List Way
  pub behind : List Way
  pub are_behind : AreBehind ns [] ts behind
  pub are_ahead : AreOnward ns (steps_taken ns ts) o ahead
  pub are : ws ≡ ahead ++ behind

-- the first of the ways is come to, and the others are still to come
pub record IsReached (ns : List Node) (ts : List Taken) (o : onward.Onward) (a : Asked) (ws : List Way) : Type 0 where
  pub rest : List Way
  pub are : ws ≡ way (steps_taken ns ts) (asked_of a) ∷ rest
  pub later : AreToCome ns ts o rest

abbrev pub IsCome : List Node → List Taken → onward.Onward → Come → List Way → Type 0
IsCome ns ts o On ws = AreToCome ns ts o ws
IsCome ns ts o (Found a) ws = IsReached ns ts o a ws
IsCome ns ts o Over ws = ws ≡ []

-- none: there is no way any more
abbrev pub IsWayFound : List Node → List Taken → onward.Onward → Option Asked → List Way → Type 0
IsWayFound ns ts o (Some a) ws = IsReached ns ts o a ws
IsWayFound ns ts o None ws = ws ≡ []

-- all ways that are still to come on a route
abbrev pub AreOn : List Node → Route → List Way → Type 0
AreOn ns r ws = AreToCome ns r.taken.items r.onward ws

-- one step more is taken
abbrev pub HasTaken : Route → Route → Origin → Option ℕ → Type 0
HasTaken r t o other = t.taken.items ≡ r.taken.items ++ record { origin = o; other = other } ∷ []

-- at the end of a way, where those from the comparisons among its steps are still to come
abbrev pub TurnsBack : Route → Route → Come → Type 0
TurnsBack r t come =
    (ns : List Node) (ws : List Way) → AreBehind ns [] r.taken.items ws → IsCome ns t.taken.items t.onward come ws

-- from where this node stands
abbrev pub LooksAt : ℕ → Node → Route → Route → Come → Type 0
LooksAt i n r t come = (ns : List Node) (ws : List Way) → slice_get ns i ≡ Some n →
    AreToCome ns r.taken.items (place.Node i) ws → IsCome ns t.taken.items t.onward come ws

-- one turn
abbrev pub GoesOn : List Node → Route → Route → Come → Type 0
GoesOn ns r t come = (ws : List Way) → AreOn ns r ws → IsCome ns t.taken.items t.onward come ws

-- as many turns as lead to the next check
abbrev pub Arrives : List Node → Route → Route → Option Asked → Type 0
Arrives ns r t found = (ws : List Way) → AreOn ns r ws → IsWayFound ns t.taken.items t.onward found ws

-- all ways from a node are still to come
abbrev pub BeginsAt : ℕ → Route → Type 0
BeginsAt i r = (ns : List Node) (g : Graph) → Shows ns i g → AreOn ns r (ways g)

-- that of a node is greater than those of any two nodes before it together
unfoldable pub weight : ℕ → ℕ
weight zero = 2
weight (suc i) = 3 * weight i

abbrev pub other_weight : Option ℕ → ℕ
other_weight None = 0
other_weight (Some i) = weight i

abbrev pub weights : List Taken → ℕ
weights [] = 0
weights (t ∷ ts) = other_weight t.other + weights ts

abbrev pub onward_weight : onward.Onward → ℕ
onward_weight Back = 1
onward_weight (Past i j) = weight j + 1
onward_weight (place.Node i) = weight i

abbrev pub weight_of : Route → ℕ
weight_of r = weights r.taken.items + onward_weight r.onward

-- a walk that goes on comes nearer to its end
abbrev pub IsLess : Come → ℕ → ℕ → Type 0
IsLess On new old = new < old
IsLess (Found a) new old = Unit {0}
IsLess Over new old = Unit {0}

-- and so it does from where this node stands, which leads to nodes before it
abbrev pub LooksNearer : ℕ → Node → Route → Route → Come → Type 0
LooksNearer i n r t come =
    LeadsBelow i n → IsLess come (weight_of t) (weights r.taken.items + weight i)
