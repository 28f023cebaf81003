-- Nodes that are added show the graphs of what they were made for.
use Rattle.std.specs.Prelude.{◌≡◌, ℕ, zero, suc, List, [], ◌∷◌, ◌++◌, length, Some, slice_get, Bool}
use Rattle.std.proofs.Common.{refl, sym, ◌∙◌, ap, subst, append_assoc, append-nil}
use denote.Ref.{Bor}
use Rattle.gh_ast.specs.declared.Expr.{Expr}
use Rattle.gh_path.specs.Graphs.{Graph, dead_end, ends, moves, guarded, fork, PathStep, Check}
use Rattle.gh_path.specs.Shown.{step_shown, asked_of, Shows, AddsNodes}
use Rattle.gh_path.specs.declared.node.Step.{Step}
use Rattle.gh_path.specs.declared.node.Asked.{Asked}
use Rattle.gh_path.specs.declared.node.Node.{Node}
use Rattle.gh_path.specs.declared.node.Node.TheVariants.{DeadEnd, Ends, Moves, Guarded, Fork}
use Rattle.gh_path.proofs.ListLemmas.{no_some}

got_more : {A : Type 0} (xs ys : List A) (n : ℕ) (y : A) → slice_get xs n ≡ Some y → slice_get (xs ++ ys) n ≡ Some y
got_more [] ys n y e = absurd (no_some y e)
got_more (x ∷ xs) ys zero y e = e
got_more (x ∷ xs) ys (suc n) y e = got_more xs ys n y e

at_end : {A : Type 0} (xs : List A) (y : A) → slice_get (xs ++ y ∷ []) (length xs) ≡ Some y
at_end [] y = refl
at_end (x ∷ xs) y = at_end xs y

pub shows_more : (ns ms : List Node) (i : ℕ) (g : Graph) → Shows ns i g → Shows (ns ++ ms) i g
shows_more ns ms i dead_end h = got_more ns ms i DeadEnd h
shows_more ns ms i (ends c) (a, at, is) = (a, got_more ns ms i (Ends a) at, is)
shows_more ns ms i (moves x g) (s, j, at, is, on) = (s, j, got_more ns ms i (Moves s j) at, is, shows_more ns ms j g on)
shows_more ns ms i (guarded c x g) (a, s, j, at, asked, is, on) =
    (a, s, j, got_more ns ms i (Guarded a s j) at, asked, is, shows_more ns ms j g on)
shows_more ns ms i (fork l e r g k) (a, b, j, m, at, left, right, one, two) =
    (a, b, j, m, got_more ns ms i (Fork a e b j m) at, left, right, shows_more ns ms j g one, shows_more ns ms m k two)

added : (old new : List Node) (n : Node) (i : ℕ) (g : Graph) → new ≡ old ++ n ∷ [] → i ≡ length old
    → Shows (old ++ n ∷ []) (length old) g → AddsNodes old new i g
added old new n i g is place shows = record {
  more = n ∷ [];
  is = is;
  shows = subst (λ j. Shows new j g) (sym place) (subst (λ ns. Shows ns (length old) g) (sym is) shows);
}

pub add_dead : (old new : List Node) (i : ℕ) → new ≡ old ++ DeadEnd ∷ [] → i ≡ length old → AddsNodes old new i dead_end
add_dead old new i is place = added old new DeadEnd i dead_end is place (at_end old DeadEnd)

pub add_end : (old new : List Node) (i : ℕ) (a : Asked) (c : Check) → new ≡ old ++ Ends a ∷ [] → i ≡ length old
    → asked_of a ≡ c → AddsNodes old new i (ends c)
add_end old new i a c is place asked = added old new (Ends a) i (ends c) is place (a, at_end old (Ends a), asked)

pub add_move : (old new : List Node) (i j : ℕ) (s : Step) (x : PathStep) (g : Graph) → new ≡ old ++ Moves s j ∷ []
    → i ≡ length old → step_shown s ≡ x → Shows old j g → AddsNodes old new i (moves x g)
add_move old new i j s x g is place shown on =
    added old new (Moves s j) i (moves x g) is place
    (s, j, at_end old (Moves s j), shown, shows_more old (Moves s j ∷ []) j g on)

pub add_guard : (old new : List Node) (i j : ℕ) (a : Asked) (s : Step) (c : Check) (x : PathStep) (g : Graph)
    → new ≡ old ++ Guarded a s j ∷ [] → i ≡ length old
    → asked_of a ≡ c → step_shown s ≡ x → Shows old j g → AddsNodes old new i (guarded c x g)
add_guard old new i j a s c x g is place asked shown on =
    added old new (Guarded a s j) i (guarded c x g) is place
    (a, s, j, at_end old (Guarded a s j), asked, shown, shows_more old (Guarded a s j ∷ []) j g on)

pub add_fork : (old new : List Node) (i j m : ℕ) (l r : Bor Expr) (e : Bool) (g k : Graph)
    → new ≡ old ++ Fork l e r j m ∷ [] → i ≡ length old
    → Shows old j g → Shows old m k → AddsNodes old new i (fork l.now e r.now g k)
add_fork old new i j m l r e g k is place one two =
    added old new (Fork l e r j m) i (fork l.now e r.now g k) is place (
      l,
      r,
      j,
      m,
      at_end old (Fork l e r j m),
      refl,
      refl,
      shows_more old (Fork l e r j m ∷ []) j g one,
      shows_more old (Fork l e r j m ∷ []) m k two,
    )

-- nothing is added
pub here : (ns : List Node) (i : ℕ) (g : Graph) → Shows ns i g → AddsNodes ns ns i g
here ns i g shows = record { more = []; is = sym (append-nil ns); shows = shows }

-- some, and then more
pub then : (a b c : List Node) (i j : ℕ) (g h : Graph) → AddsNodes a b i g → AddsNodes b c j h → AddsNodes a c j h
then a b c i j g h one two = record {
  more = one.more ++ two.more;
  is = two.is ∙ ap (λ ns. ns ++ two.more) one.is ∙ append_assoc a one.more two.more;
  shows = two.shows;
}

-- what was shown before is still shown
pub still : (a b : List Node) (i j : ℕ) (g h : Graph) → AddsNodes a b i g → Shows a j h → Shows b j h
still a b i j g h adds shows = subst (λ ns. Shows ns j h) (sym adds.is) (shows_more a adds.more j h shows)
