-- Turns of a walk over the ways of a graph.
use Rattle.std.specs.Prelude.{◌≡◌, ◌⊎◌, ℕ, zero, suc, ◌+◌, ◌*◌, ◌<◌, ◌≤◌, List, [], ◌∷◌, ◌++◌, map, Some, None, Bool}
use Rattle.std.specs.Prelude.{true, not, slice_get, slice_index_or}
use Rattle.std.proofs.Common.{refl, sym, ◌∙◌, ap, subst, inl, inr, arith, append_assoc, append-nil}
use Rattle.std.proofs.lemmas.List.{map-append}
use Rattle.std.proofs.lemmas.Option.{get_or_from_slice_get}
use denote.Ref.{Bor}
use Rattle.gh_ast.specs.declared.Expr.{Expr}
use Rattle.gh_path.specs.Graphs.{Check, PathStep, assume_step, Graph, dead_end, ends, moves, guarded, fork}
use Rattle.gh_path.specs.Paths.{Way, ways, after_step}
use Rattle.gh_path.specs.Shown.{step_shown, asked_of, Shows, turned_if, step_past, step_from, from, other_way}
use Rattle.gh_path.specs.Routes.{way, ways_from, steps_taken, AreOthers, AreBehind, AreToCome, IsReached, weight}
use Rattle.gh_path.specs.Routes.{other_weight, weights}
use Rattle.gh_path.specs.declared.node.Step.{Step}
use Rattle.gh_path.specs.declared.node.Asked.{Asked}
use Rattle.gh_path.specs.declared.node.Node.{Node}
use Rattle.gh_path.specs.declared.node.Node.TheVariants.{DeadEnd, Ends, Moves, Guarded, Fork}
use Rattle.gh_path.specs.declared.route.Taken.{Taken}
use Rattle.gh_path.specs.declared.route.Onward.TheVariants.{Back, Past}
use Rattle.gh_path.specs.declared.route.Onward.TheVariants as place
use Rattle.gh_path.proofs.ListLemmas.{same_some}

-- ways of graphs
steps_on : (xs : List PathStep) (x : PathStep) (vs : List Way)
    → map (λ w. way (xs ++ w.steps) w.check) (map (after_step x) vs)
    ≡ map (λ w. way ((xs ++ x ∷ []) ++ w.steps) w.check) vs
steps_on xs x [] = refl
steps_on xs x (v ∷ vs) =
    ap (λ ys. way ys v.check ∷ map (λ w. way (xs ++ w.steps) w.check) (map (after_step x) vs))
    (sym (append_assoc xs (x ∷ []) v.steps))
    ∙ ap (λ ws. way ((xs ++ x ∷ []) ++ v.steps) v.check ∷ ws) (steps_on xs x vs)

ways_move : (xs : List PathStep) (x : PathStep) (g : Graph) → ways_from xs (moves x g) ≡ ways_from (xs ++ x ∷ []) g
ways_move xs x g = steps_on xs x (ways g)

ways_end : (xs : List PathStep) (c : Check) → ways_from xs (ends c) ≡ way xs c ∷ []
ways_end xs c = ap (λ ys. way ys c ∷ []) (append-nil xs)

ways_guard : (xs : List PathStep) (c : Check) (x : PathStep) (g : Graph)
    → ways_from xs (guarded c x g) ≡ way xs c ∷ ways_from (xs ++ x ∷ []) g
ways_guard xs c x g =
    ap (λ ys. way ys c ∷ ways_from xs (moves x g)) (append-nil xs) ∙ ap (λ ws. way xs c ∷ ws) (steps_on xs x (ways g))

ways_fork : (xs : List PathStep) (l : Expr) (e : Bool) (r : Expr) (g k : Graph) →
    ways_from xs (fork l e r g k)
    ≡ ways_from (xs ++ assume_step l e r ∷ []) g ++ ways_from (xs ++ assume_step l (not e) r ∷ []) k
ways_fork xs l e r g k =
    map-append (λ w. way (xs ++ w.steps) w.check) (map (after_step (assume_step l e r)) (ways g))
    (map (after_step (assume_step l (not e) r)) (ways k))
    ∙ ap (λ ws. ws ++ map (λ w. way (xs ++ w.steps) w.check) (map (after_step (assume_step l (not e) r)) (ways k)))
    (steps_on xs (assume_step l e r) (ways g))
    ∙ ap (λ ws. ways_from (xs ++ assume_step l e r ∷ []) g ++ ws) (steps_on xs (assume_step l (not e) r) (ways k))

-- the step that was taken, and one step more
abbrev step_taken : List Node → Taken → PathStep
step_taken ns t = step_shown (step_from ns t.origin)

steps_push : (ns : List Node) (ts : List Taken) (t : Taken)
    → steps_taken ns (ts ++ t ∷ []) ≡ steps_taken ns ts ++ step_taken ns t ∷ []
steps_push ns [] t = refl
steps_push ns (r ∷ ts) t = ap (λ xs. step_taken ns r ∷ xs) (steps_push ns ts t)

pushed_steps : (ns : List Node) (ts new : List Taken) (t : Taken) → new ≡ ts ++ t ∷ []
    → steps_taken ns new ≡ steps_taken ns ts ++ step_taken ns t ∷ []
pushed_steps ns ts new t pushed = ap (steps_taken ns) pushed ∙ steps_push ns ts t

behind_push : (ns : List Node) (xs : List PathStep) (ts : List Taken) (t : Taken) (us vs : List Way) →
    AreBehind ns xs ts us → AreOthers ns (xs ++ steps_taken ns ts) t.origin t.other vs
    → AreBehind ns xs (ts ++ t ∷ []) (vs ++ us)
behind_push ns xs [] t us vs none others = (
  [],
  vs,
  refl,
  subst (λ ys. AreOthers ns ys t.origin t.other vs) (append-nil xs) others,
  ap (λ ws. vs ++ ws) none ∙ append-nil vs,
)
behind_push ns xs (r ∷ ts) t us vs (us', vs', rest, beside, split) others =
    let later =
    subst (λ ys. AreOthers ns ys t.origin t.other vs)
    (sym (append_assoc xs (step_taken ns r ∷ []) (steps_taken ns ts))) others in (
      vs ++ us',
      vs',
      behind_push ns (xs ++ step_taken ns r ∷ []) ts t us' vs rest later,
      beside,
      ap (λ ws. vs ++ ws) split ∙ sym (append_assoc vs us' vs'),
    )

pushed_behind : (ns : List Node) (ts new : List Taken) (t : Taken) (us vs : List Way) → new ≡ ts ++ t ∷ [] →
    AreBehind ns [] ts us → AreOthers ns (steps_taken ns ts) t.origin t.other vs → AreBehind ns [] new (vs ++ us)
pushed_behind ns ts new t us vs pushed behind others =
    subst (λ rs. AreBehind ns [] rs (vs ++ us)) (sym pushed) (behind_push ns [] ts t us vs behind others)

-- the last step that was taken
record Popped (ns : List Node) (xs : List PathStep) (ts : List Taken) (t : Taken) (ws : List Way) : Type 0 where
  behind : List Way
  others : List Way
  are_behind : AreBehind ns xs ts behind
  are_others : AreOthers ns (xs ++ steps_taken ns ts) t.origin t.other others
  are : ws ≡ others ++ behind

behind_pop : (ns : List Node) (xs : List PathStep) (ts : List Taken) (t : Taken) (ws : List Way)
    → AreBehind ns xs (ts ++ t ∷ []) ws → Popped ns xs ts t ws
behind_pop ns xs [] t ws (us, vs, none, others, split) = record {
  behind = [];
  others = vs;
  are_behind = refl;
  are_others = subst (λ ys. AreOthers ns ys t.origin t.other vs) (sym (append-nil xs)) others;
  are = split ∙ ap (λ us. us ++ vs) none ∙ sym (append-nil vs);
}
behind_pop ns xs (r ∷ ts) t ws (us, vs, rest, beside, split) =
    let last = behind_pop ns (xs ++ step_taken ns r ∷ []) ts t us rest in
    record {
      behind = last.behind ++ vs;
      others = last.others;
      are_behind = (last.behind, vs, last.are_behind, beside, refl);
      are_others =
          subst (λ ys. AreOthers ns ys t.origin t.other last.others)
          (append_assoc xs (step_taken ns r ∷ []) (steps_taken ns ts)) last.are_others;
      are = split ∙ ap (λ us. us ++ vs) last.are ∙ append_assoc last.others last.behind vs;
    }

-- a node and the graph that it shows
abbrev Meets : List Node → Node → Graph → Type 0
Meets ns DeadEnd g = g ≡ dead_end
Meets ns (Ends a) g = g ≡ ends (asked_of a)
Meets ns (Moves s j) g = (h : Graph) × (g ≡ moves (step_shown s) h) × Shows ns j h
Meets ns (Guarded a s j) g = (h : Graph) × (g ≡ guarded (asked_of a) (step_shown s) h) × Shows ns j h
Meets ns (Fork a e b j m) g = (h : Graph) × (k : Graph) × (g ≡ fork a.now e b.now h k) × Shows ns j h × Shows ns m k

meets : (ns : List Node) (i : ℕ) (n : Node) (g : Graph) → slice_get ns i ≡ Some n → Shows ns i g → Meets ns n g
meets ns i n dead_end there h = subst (λ m. Meets ns m dead_end) (same_some DeadEnd n (sym h ∙ there)) refl
meets ns i n (ends c) there (a, at, asked) =
    subst (λ m. Meets ns m (ends c)) (same_some (Ends a) n (sym at ∙ there)) (ap ends (sym asked))
meets ns i n (moves x g) there (s, j, at, shown, on) =
    subst (λ m. Meets ns m (moves x g)) (same_some (Moves s j) n (sym at ∙ there))
    (g, ap (λ y. moves y g) (sym shown), on)
meets ns i n (guarded c x g) there (a, s, j, at, asked, shown, on) =
    subst (λ m. Meets ns m (guarded c x g)) (same_some (Guarded a s j) n (sym at ∙ there))
    (g, ap (λ k. guarded k x g) (sym asked) ∙ ap (λ y. guarded (asked_of a) y g) (sym shown), on)
meets ns i n (fork l e r g k) there (a, b, j, m, at, left, right, one, two) =
    subst (λ m. Meets ns m (fork l e r g k)) (same_some (Fork a e b j m) n (sym at ∙ there))
    (g, k, ap (λ x. fork x e r g k) (sym left) ∙ ap (λ x. fork a.now e x g k) (sym right), one, two)

-- the steps from a node that is there
node_there : (ns : List Node) (i : ℕ) (n : Node) → slice_get ns i ≡ Some n → slice_index_or ns i DeadEnd ≡ n
node_there ns i n there = get_or_from_slice_get ns i n DeadEnd there

step_there : (ns : List Node) (i : ℕ) (n : Node) → slice_get ns i ≡ Some n
    → step_shown (step_from ns (from i)) ≡ step_shown (step_past n)
step_there ns i n there = ap (λ m. step_shown (step_past m)) (node_there ns i n there)

other_there : (ns : List Node) (i : ℕ) (n : Node) → slice_get ns i ≡ Some n
    → step_shown (step_from ns (other_way (from i))) ≡ step_shown (turned_if true (step_past n))
other_there ns i n there = ap (λ m. step_shown (turned_if true (step_past m))) (node_there ns i n there)

-- at each kind of node
pub look_dead : (ns : List Node) (i : ℕ) (ts : List Taken) (ws : List Way) → slice_get ns i ≡ Some DeadEnd
    → AreToCome ns ts (place.Node i) ws → AreToCome ns ts Back ws
look_dead ns i ts ws there come =
    let zs = steps_taken ns ts in
    let here = come.are_ahead in
    let is : here.0 ≡ dead_end = meets ns i DeadEnd here.0 there here.1 in
    record {
      ahead = [];
      behind = come.behind;
      are_behind = come.are_behind;
      are_ahead = refl;
      are = come.are ∙ ap (λ hs. hs ++ come.behind) (here.2 ∙ ap (ways_from zs) is);
    }

pub look_end : (ns : List Node) (i : ℕ) (ts : List Taken) (a : Asked) (ws : List Way) → slice_get ns i ≡ Some (Ends a)
    → AreToCome ns ts (place.Node i) ws → IsReached ns ts Back a ws
look_end ns i ts a ws there come =
    let zs = steps_taken ns ts in
    let here = come.are_ahead in
    let is : here.0 ≡ ends (asked_of a) = meets ns i (Ends a) here.0 there here.1 in
    record {
      rest = come.behind;
      are = come.are ∙ ap (λ hs. hs ++ come.behind) (here.2 ∙ ap (ways_from zs) is ∙ ways_end zs (asked_of a));
      later = record { ahead = []; behind = come.behind; are_behind = come.are_behind; are_ahead = refl; are = refl };
    }

pub look_move : (ns : List Node) (i : ℕ) (ts new : List Taken) (s : Step) (j : ℕ) (ws : List Way)
    → slice_get ns i ≡ Some (Moves s j) →
    new ≡ ts ++ record { origin = from i; other = None } ∷ [] → AreToCome ns ts (place.Node i) ws
    → AreToCome ns new (place.Node j) ws
look_move ns i ts new s j ws there pushed come =
    let zs = steps_taken ns ts in
    let here = come.are_ahead in
    let is = meets ns i (Moves s j) here.0 there here.1 in
    let t : Taken = record { origin = from i; other = None } in
    let steps : steps_taken ns new ≡ zs ++ step_shown s ∷ [] =
    pushed_steps ns ts new t pushed ∙ ap (λ y. zs ++ y ∷ []) (step_there ns i (Moves s j) there) in
    record {
      ahead = ways_from (steps_taken ns new) is.0;
      behind = come.behind;
      are_behind = pushed_behind ns ts new t come.behind [] pushed come.are_behind refl;
      are_ahead = (is.0, is.2, refl);
      are = come.are ∙ ap (λ hs. hs ++ come.behind)
          (here.2 ∙ ap (ways_from zs) is.1 ∙ ways_move zs (step_shown s) is.0
          ∙ ap (λ ys. ways_from ys is.0) (sym steps));
    }

pub look_guard : (ns : List Node) (i : ℕ) (ts : List Taken) (a : Asked) (s : Step) (j : ℕ) (ws : List Way)
    → slice_get ns i ≡ Some (Guarded a s j) →
    AreToCome ns ts (place.Node i) ws → IsReached ns ts (Past i j) a ws
look_guard ns i ts a s j ws there come =
    let zs = steps_taken ns ts in
    let here = come.are_ahead in
    let is = meets ns i (Guarded a s j) here.0 there here.1 in
    let more = ways_from (zs ++ step_shown s ∷ []) is.0 in
    let same : step_shown (step_from ns (from i)) ≡ step_shown s = step_there ns i (Guarded a s j) there in
    record {
      rest = more ++ come.behind;
      are = come.are ∙ ap (λ hs. hs ++ come.behind)
          (here.2 ∙ ap (ways_from zs) is.1 ∙ ways_guard zs (asked_of a) (step_shown s) is.0);
      later = record {
        ahead = more;
        behind = come.behind;
        are_behind = come.are_behind;
        are_ahead = (is.0, is.2, ap (λ y. ways_from (zs ++ y ∷ []) is.0) (sym same));
        are = refl;
      };
    }

pub look_fork : (ns : List Node) (i : ℕ) (ts new : List Taken) (a : Bor Expr) (e : Bool) (b : Bor Expr) (j m : ℕ)
    (ws : List Way) → slice_get ns i ≡ Some (Fork a e b j m) →
    new ≡ ts ++ record { origin = from i; other = Some m } ∷ [] → AreToCome ns ts (place.Node i) ws
    → AreToCome ns new (place.Node j) ws
look_fork ns i ts new a e b j m ws there pushed come =
    let zs = steps_taken ns ts in
    let here = come.are_ahead in
    let is = meets ns i (Fork a e b j m) here.0 there here.1 in
    let x = assume_step a.now e b.now in
    let y = assume_step a.now (not e) b.now in
    let t : Taken = record { origin = from i; other = Some m } in
    let one = ways_from (zs ++ x ∷ []) is.0 in
    let two = ways_from (zs ++ y ∷ []) is.1 in
    let steps : steps_taken ns new ≡ zs ++ x ∷ [] =
    pushed_steps ns ts new t pushed ∙ ap (λ z. zs ++ z ∷ []) (step_there ns i (Fork a e b j m) there) in
    let other : step_shown (step_from ns (other_way (from i))) ≡ y = other_there ns i (Fork a e b j m) there in
    record {
      ahead = ways_from (steps_taken ns new) is.0;
      behind = two ++ come.behind;
      are_behind =
          pushed_behind ns ts new t come.behind two pushed come.are_behind
          (is.1, is.4, ap (λ z. ways_from (zs ++ z ∷ []) is.1) (sym other));
      are_ahead = (is.0, is.3, refl);
      are = come.are ∙ ap (λ hs. hs ++ come.behind)
          (here.2 ∙ ap (ways_from zs) is.2 ∙ ways_fork zs a.now e b.now is.0 is.1) ∙ append_assoc one two come.behind
          ∙ ap (λ ys. ways_from ys is.0 ++ (two ++ come.behind)) (sym steps);
    }

-- past a check
pub go_past : (ns : List Node) (ts new : List Taken) (i j : ℕ) (ws : List Way) →
    new ≡ ts ++ record { origin = from i; other = None } ∷ [] → AreToCome ns ts (Past i j) ws
    → AreToCome ns new (place.Node j) ws
go_past ns ts new i j ws pushed come =
    let here = come.are_ahead in
    let t : Taken = record { origin = from i; other = None } in
    record {
      ahead = come.ahead;
      behind = come.behind;
      are_behind = pushed_behind ns ts new t come.behind [] pushed come.are_behind refl;
      are_ahead = (here.0, here.1, here.2 ∙ ap (λ ys. ways_from ys here.0) (sym (pushed_steps ns ts new t pushed)));
      are = come.are;
    }

-- back over a step without another way
pub back_over : (ns : List Node) (ts : List Taken) (t : Taken) (ws : List Way) → t.other ≡ None
    → AreBehind ns [] (ts ++ t ∷ []) ws → AreBehind ns [] ts ws
back_over ns ts t ws none behind =
    let last = behind_pop ns [] ts t ws behind in
    let no_others : last.others ≡ [] =
    subst (λ o. AreOthers ns (steps_taken ns ts) t.origin o last.others) none last.are_others in
    let same : ws ≡ last.behind = last.are ∙ ap (λ vs. vs ++ last.behind) no_others in
    subst (AreBehind ns [] ts) (sym same) last.are_behind

-- to the other way of a comparison
pub back_to : (ns : List Node) (ts new : List Taken) (t : Taken) (i : ℕ) (ws : List Way) → t.other ≡ Some i →
    new ≡ ts ++ record { origin = other_way t.origin; other = None } ∷ [] → AreBehind ns [] (ts ++ t ∷ []) ws
    → AreToCome ns new (place.Node i) ws
back_to ns ts new t i ws some pushed behind =
    let last = behind_pop ns [] ts t ws behind in
    let o = subst (λ o. AreOthers ns (steps_taken ns ts) t.origin o last.others) some last.are_others in
    let q : Taken = record { origin = other_way t.origin; other = None } in
    record {
      ahead = last.others;
      behind = last.behind;
      are_behind = pushed_behind ns ts new q last.behind [] pushed last.are_behind refl;
      are_ahead = (o.0, o.1, o.2 ∙ ap (λ ys. ways_from ys o.0) (sym (pushed_steps ns ts new q pushed)));
      are = last.are;
    }

-- weights
pub weight_some : (i : ℕ) → 2 ≤ weight i
unfolding weight
weight_some zero = omega arith
weight_some (suc i) = omega (arith, weight_some i)

pub weight_below : (j i : ℕ) → j < i → 3 * weight j ≤ weight i
unfolding weight
weight_below j zero less = absurd (omega (arith, less))
weight_below j (suc i) less = elim (last_or j i less) [
  | inl same ↦ subst (λ k. 3 * weight j ≤ 3 * weight k) same (omega arith)
  | inr before ↦ omega (arith, weight_below j i before, weight_some i)
]
  where
    last_or : (j i : ℕ) → j < suc i → (j ≡ i) ⊎ (j < i)
    last_or j i less = grind arith

pub weights_push : (ts : List Taken) (t : Taken) → weights (ts ++ t ∷ []) ≡ weights ts + other_weight t.other
weights_push [] t = omega arith
weights_push (r ∷ ts) t = omega (arith, weights_push ts t)

-- at the first node
pub begun : (ns : List Node) (ts : List Taken) (i : ℕ) (g : Graph) → ts ≡ [] → Shows ns i g
    → AreToCome ns ts (place.Node i) (ways g)
begun ns ts i g none shows =
    subst (λ rs. AreToCome ns rs (place.Node i) (ways g)) (sym none)
    (record {
      ahead = ways_from [] g;
      behind = [];
      are_behind = refl;
      are_ahead = (g, shows, refl);
      are = sym (append-nil (ways_from [] g) ∙ all_ways (ways g));
    })
  where
    all_ways : (ws : List Way) → map (λ w. way ([] ++ w.steps) w.check) ws ≡ ws
    all_ways [] = refl
    all_ways (w ∷ ws) = ap (λ vs. w ∷ vs) (all_ways ws)

-- there is a node
pub shown_node : (ns : List Node) (i : ℕ) (g : Graph) → Shows ns i g → (n : Node) × (slice_get ns i ≡ Some n)
shown_node ns i dead_end h = (DeadEnd, h)
shown_node ns i (ends c) (a, at, asked) = (Ends a, at)
shown_node ns i (moves x g) (s, j, at, shown, on) = (Moves s j, at)
shown_node ns i (guarded c x g) (a, s, j, at, asked, shown, on) = (Guarded a s j, at)
shown_node ns i (fork l e r g k) (a, b, j, m, at, left, right, one, two) = (Fork a e b j m, at)
