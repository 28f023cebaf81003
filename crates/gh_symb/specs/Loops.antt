-- Loops of a text, as they are met again.
use Rattle.std.specs.Prelude.{◌≡◌, ℕ, List, ◌++◌, slice_get, MatchResult, Result, Some}
use Rattle.gh_ast.specs.Plain.{assertion_of, block_of, Procedure}
use Rattle.gh_path.specs.Graphs.{While, IsLoopAt}
use Rattle.gh_path.specs.declared.loops.While.{While as CodeWhile}

-- r has the invariant and the body of the loop l
pub record IsWhile (r : CodeWhile) (l : While) : Type 0 where
  pub invariant : assertion_of r.invariant.now ≡ l.invariant
  pub body : (block_of r.body.now).statements ≡ l.body

-- the loop of a number of a procedure
abbrev pub IsWhileOf : Procedure → ℕ → CodeWhile → Type 0
IsWhileOf p n r = (l : While) × IsLoopAt p n l × IsWhile r l

-- the loop of a number among those of a list, whatever loops come after them
abbrev pub IsWhileAt : List While → ℕ → CodeWhile → Type 0
IsWhileAt ls n r = (ms : List While) → (l : While) × (slice_get (ls ++ ms) n ≡ Some l) × IsWhile r l

-- the list ls has no loop of the number n: that loop has the number `left` among the loops after the list
abbrev pub IsLater : List While → ℕ → ℕ → Type 0
IsLater ls n left = (ms : List While) → slice_get (ls ++ ms) n ≡ slice_get ms left

-- the answer for a list and the number of a loop: the loop, or the loop's number among those after the list
abbrev pub IsAnswer : List While → ℕ → Result CodeWhile ℕ → Type 0
IsAnswer ls n r = MatchResult r (IsWhileAt ls n) (IsLater ls n)
