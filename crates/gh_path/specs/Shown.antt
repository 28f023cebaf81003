-- Steps and checks as the text has them, and what graph a list of nodes shows.
use Rattle.std.specs.Prelude.{◌≡◌, ◌<◌, ◌≤◌, ℕ, ◌+◌, List, [], ◌∷◌, ◌++◌, map, length, take, slice_get, slice_index_or}
use Rattle.std.specs.Prelude.{Some, Bool, true, false, not}
use denote.Ref.{Bor}
use Rattle.gh_base.specs.declared.place.Span.{Span}
use Rattle.gh_ast.specs.declared.Expr.{Expr}
use Rattle.gh_path.specs.Graphs.{Check, access, callee_entry, loop_entry, return_check, loop_end, PathStep, access_step}
use Rattle.gh_path.specs.Graphs.{assume_step, set_step, new_step, write_step, free_step, call_step, while_step}
use Rattle.gh_path.specs.Graphs.{return_step, Graph, dead_end, ends, moves, guarded, fork}
use Rattle.gh_path.specs.Kept.{step_of, asked_at, check_of}
use Rattle.gh_path.specs.declared.condition.PathStep as kept_step
use Rattle.gh_path.specs.declared.condition.CheckKind as kept_kind
use Rattle.gh_path.specs.declared.condition.Check as kept_check
use Rattle.gh_path.specs.declared.node.Step.{Step}
use Rattle.gh_path.specs.declared.node.Step.TheVariants as step
use Rattle.gh_path.specs.declared.node.Goal.{Goal}
use Rattle.gh_path.specs.declared.node.Goal.TheVariants as goal
use Rattle.gh_path.specs.declared.node.Asked.{Asked}
use Rattle.gh_path.specs.declared.node.Node.{Node}
use Rattle.gh_path.specs.declared.node.Node.TheVariants as node
use Rattle.gh_path.specs.declared.node.Origin.{Origin}

-- a step as the text has it, seen as one of the definitions
abbrev pub step_shown : Step → PathStep
step_shown (step.Access x) = access_step x.now
step_shown (step.Assume l e r) = assume_step l.now e r.now
step_shown (step.Set x e) = set_step x.now e.now
step_shown (step.Write x e) = write_step x.now e.now
step_shown (step.New x) = new_step x.now
step_shown (step.Free x) = free_step x.now
step_shown (step.Call xs n es) = call_step xs.now n es.now
step_shown (step.Loop n) = while_step n
step_shown (step.Return es) = return_step es.now

-- what is asked at a place
abbrev pub goal_at : Goal → Span → Check
goal_at (goal.Access x) at = access (record { name = x.now; span = at })
goal_at (goal.CalleeEntry n es) at = callee_entry at n es.now
goal_at (goal.LoopEntry n) at = loop_entry at n
goal_at goal.Return at = return_check at
goal_at (goal.LoopEnd n) at = loop_end at n

abbrev pub asked_of : Asked → Check
asked_of a = goal_at a.goal a.span

-- as they are kept, steps and checks are what they are as the text has them
abbrev pub KeepsStep : Step → kept_step.PathStep → Type 0
KeepsStep s r = step_of r ≡ step_shown s

abbrev pub KeepsGoal : Goal → kept_kind.CheckKind → Type 0
KeepsGoal a k = (at : Span) → asked_at k at ≡ goal_at a at

abbrev pub KeepsAsked : Asked → kept_check.Check → Type 0
KeepsAsked a k = check_of k ≡ asked_of a

-- with the opposite of the comparison that it assumes, if it assumes one
abbrev pub with_opposite : Step → Step
with_opposite (step.Access x) = step.Access x
with_opposite (step.Assume l e r) = step.Assume l (not e) r
with_opposite (step.Set x e) = step.Set x e
with_opposite (step.Write x e) = step.Write x e
with_opposite (step.New x) = step.New x
with_opposite (step.Free x) = step.Free x
with_opposite (step.Call xs n es) = step.Call xs n es
with_opposite (step.Loop n) = step.Loop n
with_opposite (step.Return es) = step.Return es

abbrev pub turned_if : Bool → Step → Step
turned_if true s = with_opposite s
turned_if false s = s

-- the step that leads on from a node, at a comparison on the way where it is true; of an end any step
abbrev pub step_past : Node → Step
step_past node.DeadEnd = step.Loop 0
step_past (node.Ends a) = step.Loop 0
step_past (node.Moves s j) = s
step_past (node.Guarded a s j) = s
step_past (node.Fork l e r i j) = step.Assume l e r

-- the step of an origin
abbrev pub step_from : List Node → Origin → Step
step_from ns o = turned_if o.turned (step_past (slice_index_or ns o.place node.DeadEnd))

abbrev pub from : ℕ → Origin
from i = record { place = i; turned = false }

-- on the other way of the comparison
abbrev pub other_way : Origin → Origin
other_way o = record { place = o.place; turned = not o.turned }

-- the steps of some origins
abbrev pub steps_from : List Node → List Origin → List PathStep
steps_from ns os = map (λ o. step_shown (step_from ns o)) os

-- the node at i leads on as the graph does
abbrev pub Shows : List Node → ℕ → Graph → Type 0
Shows ns i dead_end = slice_get ns i ≡ Some node.DeadEnd
Shows ns i (ends c) = (a : Asked) × (slice_get ns i ≡ Some (node.Ends a)) × (asked_of a ≡ c)
Shows ns i (moves x g) =
    (s : Step) × (j : ℕ) × (slice_get ns i ≡ Some (node.Moves s j)) × (step_shown s ≡ x) × Shows ns j g
Shows ns i (guarded c x g) =
    (a : Asked) × (s : Step) × (j : ℕ) × (slice_get ns i ≡ Some (node.Guarded a s j)) × (asked_of a ≡ c)
    × (step_shown s ≡ x) × Shows ns j g
Shows ns i (fork l e r g k) =
    (a b : Bor Expr) × (j m : ℕ) × (slice_get ns i ≡ Some (node.Fork a e b j m)) × (a.now ≡ l) × (b.now ≡ r)
    × Shows ns j g × Shows ns m k

-- a node leads to nodes before the place k
abbrev pub LeadsBelow : ℕ → Node → Type 0
LeadsBelow k node.DeadEnd = Unit {0}
LeadsBelow k (node.Ends a) = Unit {0}
LeadsBelow k (node.Moves s j) = j < k
LeadsBelow k (node.Guarded a s j) = j < k
LeadsBelow k (node.Fork l e r i j) = (i < k) × (j < k)

-- each node leads to nodes before it
abbrev pub AreLinked : List Node → Type 0
AreLinked ns = (i : ℕ) (n : Node) → slice_get ns i ≡ Some n → LeadsBelow i n

-- nodes are added, of which the one at i shows the graph
pub record AddsNodes (old new : List Node) (i : ℕ) (g : Graph) : Type 0 where
  pub more : List Node
  pub is : new ≡ old ++ more
  pub shows : Shows new i g

-- the steps that are kept come from these origins, one by one
abbrev pub AreHeld : List Node → List Origin → List kept_step.PathStep → Type 0
AreHeld ns os rs = map step_of rs ≡ steps_from ns os

-- where the steps rs come from the origins os, the steps qs come from the origins ps
abbrev pub KeepsHeld : List Node → List Origin → List kept_step.PathStep → List Origin → List kept_step.PathStep
    → Type 0
KeepsHeld ns os rs ps qs = AreHeld ns os rs → AreHeld ns ps qs

-- an origin stands at the place i, after those that stood before it
abbrev pub HoldsAfter : ℕ → Origin → List Origin → List Origin → Type 0
HoldsAfter i o os ps = i ≤ length os → take (i + 1) ps ≡ take i os ++ o ∷ []
