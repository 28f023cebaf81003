-- Loops by their numbers.
use Rattle.std.specs.Prelude.{◌≡◌, ◌↔◌, ℕ, slice_get}
use Rattle.std.proofs.Common.{subst}
use Rattle.gh_ast.specs.Plain.{Procedure}
use Rattle.gh_ast.proofs.Lists.{one_value}
use Rattle.gh_assert.specs.Meaning.{Meaning, HasPart}
use Rattle.gh_path.specs.Graphs.{While, loops_of, IsLoopAt}
use Rattle.gh_trace.specs.Traces.{State, LoopLeads}

-- the loop of a number is one
pub one_loop : (p : Procedure) (n : ℕ) (l k : While) → IsLoopAt p n l → IsLoopAt p n k → l ≡ k
one_loop p n l k here there = one_value (slice_get (loops_of p) n) l k here there

-- a step by the loop of a number is one by that loop
pub around_where : (p : Procedure) (n : ℕ) (l : While) (x y : State) → IsLoopAt p n l
    → ((k : While) × IsLoopAt p n k × LoopLeads k x y) ↔ LoopLeads l x y
around_where p n l x y is =
    (λ (k, there, around). subst (λ z. LoopLeads z x y) (one_loop p n k l there is) around, λ around. (l, is, around))

-- a check of its invariant is one of that of the loop
pub entered_where : (p : Procedure) (n : ℕ) (l : While) (x : State) → IsLoopAt p n l
    → ((k : While) → IsLoopAt p n k → HasPart k.invariant x.store x.heap) ↔ HasPart l.invariant x.store x.heap
entered_where p n l x is =
    (λ all. all l is, λ part k there. subst (λ z. HasPart z.invariant x.store x.heap) (one_loop p n l k is there) part)

-- and so at its end
pub ended_where : (p : Procedure) (n : ℕ) (l : While) (x : State) → IsLoopAt p n l
    → ((k : While) → IsLoopAt p n k → Meaning k.invariant x.store x.heap) ↔ Meaning l.invariant x.store x.heap
ended_where p n l x is = (
  λ all. all l is,
  λ met k there. subst (λ z. Meaning z.invariant x.store x.heap) (one_loop p n l k is there) met,
)
