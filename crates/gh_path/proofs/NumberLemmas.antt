-- Loops by their numbers.
use Rattle.std.specs.Prelude.{◌≡◌, ℕ, zero, suc, ◌+◌, ◌-◌, ◌<◌, List, [], ◌∷◌, ◌++◌, map, length, get_or, Some}
use Rattle.std.specs.Prelude.{slice_get}
use Rattle.std.specs.Option.{option_map}
use Rattle.std.proofs.Common.{refl, sym, ◌∙◌, ap, subst, inl, inr, arith}
use Rattle.std.proofs.lemmas.Option.{slice_get-map, slice_get_read}
use Rattle.gh_base.proofs.ListLemmas.{over_or}
use Rattle.gh_ast.specs.declared.Stmt.{Stmt}
use Rattle.gh_ast.specs.declared.Block.{Block as CodeBlock}
use Rattle.gh_ast.specs.declared.Cond.{Cond}
use Rattle.gh_ast.specs.declared.Stmt.TheFolds.{fold_out-Block}
use Rattle.gh_ast.specs.declared.Stmt.TheVariants.{If}
use Rattle.gh_ast.specs.Plain.{Procedure, Statement, set, new, write, free, call, if, while, return, Statements}
use Rattle.gh_ast.specs.Plain.{no_statements, statement_first, cond_of, statement_of, statements_view, Block, block_of}
use Rattle.gh_ast.specs.Plain.{statement_step, block_step}
use Rattle.gh_ast.proofs.PlainLemmas.{statement_of-If, part_of-statements}
use Rattle.gh_path.specs.Graphs.{While, loops, all_loops, loops_of, IsLoopAt}
use Rattle.gh_path.specs.Walking.{loop_of}
use Rattle.gh_path.specs.declared.loops.While.{While as CodeWhile}
use Rattle.gh_path.proofs.ListLemmas.{same_some, no_some, got_left, got_right, got_front, got_back}

-- the plain form of an `if` by its blocks
pub choice_at : (s : Stmt) (t : Cond) (a b : CodeBlock) (xs ys : List Stmt) → s ≡ If t a b → xs ≡ a.statements.items
    → ys ≡ b.statements.items
    → statement_of s ≡ if (cond_of t) (statements_view xs) (block_of a).close (statements_view ys) (block_of b).close
choice_at s t a b xs ys is one two =
    ap statement_of is
    ∙ statement_of-If t a b
    ∙ ap (λ y. if (cond_of t) y (block_of a).close (block_of b).statements (block_of b).close)
    (part_of-statements a ∙ ap statements_view (sym one))
    ∙ ap (λ y. if (cond_of t) (statements_view xs) (block_of a).close y (block_of b).close)
    (part_of-statements b ∙ ap statements_view (sym two))

-- the loops of a loop's body stand right after it
abbrev Follows : List While → Type 0
Follows ls =
    (n : ℕ) (l : While) → slice_get ls n ≡ Some l → (j : ℕ) (m : While) → slice_get (all_loops l.body) j ≡ Some m
    → slice_get ls (n + 1 + j) ≡ Some m

both_follow : (xs ys : List While) → Follows xs → Follows ys → Follows (xs ++ ys)
both_follow xs ys one two n l at j m inside = elim (over_or n (length xs)) [
  | inl near ↦ got_front xs ys (n + 1 + j) m (one n l (got_left xs ys n l near at) j m inside)
  | inr past ↦ at_rest (n - length xs) (omega (arith, past))
]
  where
    at_rest : (k : ℕ) → n ≡ length xs + k → slice_get (xs ++ ys) (n + 1 + j) ≡ Some m
    at_rest k same =
        let there : slice_get ys k ≡ Some l =
        got_right xs ys k l (subst (λ i. slice_get (xs ++ ys) i ≡ Some l) same at) in
        let place : length xs + (k + 1 + j) ≡ n + 1 + j = omega (arith, same) in
        subst (λ i. slice_get (xs ++ ys) i ≡ Some m) place (got_back xs ys (k + 1 + j) m (two k l there j m inside))

none_follow : Follows []
none_follow n l at j m inside = absurd (no_some l at)

one_follows : (l : While) → Follows (all_loops l.body) → Follows (l ∷ all_loops l.body)
one_follows l below zero k at j m inside =
    let same : suc j ≡ 0 + 1 + j = omega arith in
    subst (λ i. slice_get (l ∷ all_loops l.body) i ≡ Some m) same
    (subst (λ (q : While). slice_get (all_loops q.body) j ≡ Some m) (sym (same_some l k at)) inside)
one_follows l below (suc n) k at j m inside =
    let same : suc (n + 1 + j) ≡ suc n + 1 + j = omega arith in
    subst (λ i. slice_get (l ∷ all_loops l.body) i ≡ Some m) same (below n k at j m inside)

mutual
  follow : (s : Statement) → Follows (loops s)
  follow (set x e) = none_follow
  follow (new x) = none_follow
  follow (write x e) = none_follow
  follow (free x) = none_follow
  follow (call xs f es) = none_follow
  follow (if t a c b d) = both_follow (all_loops a) (all_loops b) (all_follow a) (all_follow b)
  follow (while at t i body close) =
      one_follows (record { at = at; test = t; invariant = i; body = body; close = close }) (all_follow body)
  follow (return at es) = none_follow

  pub all_follow : (ss : Statements) → Follows (all_loops ss)
  all_follow no_statements = none_follow
  all_follow (statement_first s ss) = both_follow (loops s) (all_loops ss) (follow s) (all_follow ss)

-- a loop of a procedure by its number
pub loop_there : (p : Procedure) (turns : List CodeWhile) (i : ℕ) (x : CodeWhile) → map loop_of turns ≡ loops_of p
    → i < length turns → x ≡ get_or turns i x → IsLoopAt p i (loop_of x)
loop_there p turns i x same within is =
    ap (λ ls. slice_get ls i) (sym same) ∙ slice_get-map loop_of turns i
    ∙ ap (option_map loop_of) (slice_get_read turns (length turns) i x refl within is)

-- the last brace of a block
pub close_of : (b : CodeBlock) → (block_of b).close ≡ b.close
close_of b = ap (λ (q : Block). q.close) (fold_out-Block Statement Block statement_step block_step b)
