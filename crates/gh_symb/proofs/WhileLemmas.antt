-- Loops by their numbers in lists that are put together.
use Rattle.std.specs.Prelude.{◌≡◌, ℕ, zero, suc, ◌+◌, ◌-◌, ◌<◌, List, [], ◌∷◌, ◌++◌, slice_get, length, get_or, drop}
use Rattle.std.specs.Prelude.{Some, Result, Ok, Err, None}
use Rattle.std.proofs.Common.{refl, sym, ◌∙◌, ap, arith}
use Rattle.std.proofs.lemmas.List.{append_assoc, append-nil}
use Rattle.gh_ast.specs.declared.Cond.{Cond}
use Rattle.gh_ast.specs.declared.Assertion.{Assertion}
use Rattle.gh_ast.specs.declared.Block.{Block}
use Rattle.gh_ast.specs.declared.Stmt.{Stmt}
use Rattle.gh_ast.specs.declared.Stmt.TheVariants.{If, While as WhileStmt}
use Rattle.gh_base.specs.declared.place.Span.{Span}
use Rattle.gh_ast.specs.Plain.{cond_of, assertion_of, statement_of, statements_view, block_of}
use Rattle.gh_ast.proofs.PlainLemmas.{statement_of-If, statement_of-While, part_of-statements}
use Rattle.gh_path.specs.Graphs.{While, while_of, loops, all_loops}
use Rattle.gh_path.specs.declared.loops.While.{While as CodeWhile}
use Rattle.gh_symb.specs.Loops.{IsAnswer, IsWhile, IsWhileAt, IsLater}
use Rattle.gh_symb.proofs.TableLemmas.{head_of}

pub first_part : (ks ls : List While) (n : ℕ) (r : CodeWhile) → IsWhileAt ks n r → IsWhileAt (ks ++ ls) n r
first_part ks ls n r at = λ ms.
    let g = at (ls ++ ms) in
    (g.0, ap (λ xs. slice_get xs n) (append_assoc ks ls ms) ∙ g.1, g.2)

pub second_part : (ks ls : List While) (n left : ℕ) (r : Result CodeWhile ℕ) → IsLater ks n left → IsAnswer ls left r
    → IsAnswer (ks ++ ls) n r
second_part ks ls n left (Ok r) past at = λ ms.
    let g = at ms in
    (g.0, ap (λ xs. slice_get xs n) (append_assoc ks ls ms) ∙ past (ls ++ ms) ∙ g.1, g.2)
second_part ks ls n left (Err rest) past later =
    λ ms. ap (λ xs. slice_get xs n) (append_assoc ks ls ms) ∙ past (ls ++ ms) ∙ later ms

pub here : (l : While) (ls : List While) (n : ℕ) (r : CodeWhile) → n ≡ 0 → IsWhile r l → IsWhileAt (l ∷ ls) n r
here l ls n r zero_is is = λ ms. (l, ap (λ k. slice_get (l ∷ ls ++ ms) k) zero_is, is)

pub inside : (l : While) (ls : List While) (n : ℕ) (r : Result CodeWhile ℕ) → (n ≡ 0 → ⊥) → IsAnswer ls (n - 1) r
    → IsAnswer (l ∷ ls) n r
inside l ls n r not_zero at = at_suc n (n - 1) (omega (arith, not_zero)) r at
  where
    at_suc : (n k : ℕ) → n ≡ suc k → (r : Result CodeWhile ℕ) → IsAnswer ls k r → IsAnswer (l ∷ ls) n r
    at_suc n k e (Ok r) at = λ ms. let g = at ms in (g.0, ap (slice_get (l ∷ ls ++ ms)) e ∙ g.1, g.2)
    at_suc n k e (Err rest) later = λ ms. ap (slice_get (l ∷ ls ++ ms)) e ∙ later ms

pub loops-If : (t : Cond) (a b : Block)
    → loops (statement_of (If t a b))
    ≡ all_loops (statements_view a.statements.items) ++ all_loops (statements_view b.statements.items)
loops-If t a b = ap loops (statement_of-If t a b) ∙ rw (part_of-statements a, part_of-statements b) refl

abbrev pub whole : Span → Cond → Assertion → Block → While
whole s t i b = while_of s (cond_of t) (assertion_of i) (block_of b).statements (block_of b).close

pub loops-While : (s : Span) (t : Cond) (i : Assertion) (b : Block)
    → loops (statement_of (WhileStmt s t i b)) ≡ whole s t i b ∷ all_loops (statements_view b.statements.items)
loops-While s t i b =
    ap loops (statement_of-While s t i b) ∙ ap (λ ss. whole s t i b ∷ all_loops ss) (part_of-statements b)

pub found_among : (ss : List Stmt) (i : ℕ) (s : Stmt) (n left : ℕ) (r : CodeWhile) → i < length ss → s ≡ get_or ss i s →
    ((ms : List While) → slice_get (all_loops (statements_view ss) ++ ms) n
    ≡ slice_get (all_loops (statements_view (drop i ss)) ++ ms) left) →
    IsWhileAt (loops (statement_of s)) left r → IsWhileAt (all_loops (statements_view ss)) n r
found_among ss i s n left r within is same at = λ ms.
    let rest = all_loops (statements_view (drop (i + 1) ss)) in
    let g = at (rest ++ ms) in
    let heads = head_of ss i s within is in (
      g.0,
      same ms ∙ ap (λ xs. slice_get (all_loops (statements_view xs) ++ ms) left) heads
          ∙ ap (λ xs. slice_get xs left) (append_assoc (loops (statement_of s)) rest ms) ∙ g.1,
      g.2,
    )

-- the list has a loop of a number that is below its length, and this is the one that is found
loop_at : (ls : List While) (n : ℕ) → n < length ls → (l : While) × (slice_get ls n ≡ Some l)
loop_at [] n within = absurd (omega (arith, within))
loop_at (l ∷ ls) zero within = (l, refl)
loop_at (l ∷ ls) (suc n) within = loop_at ls n (omega (arith, within))

pub one_round : (ls : List While) (n : ℕ) (r : CodeWhile) → IsWhileAt ls n r
    → (l : While) × (slice_get ls n ≡ Some l) × IsWhile r l
one_round ls n r at =
    let g = at [] in
    (g.0, ap (λ xs. slice_get xs n) (sym (append-nil ls)) ∙ g.1, g.2)

pub no_round : (ls : List While) (n left : ℕ) → IsLater ls n left → n < length ls → ⊥
no_round ls n left later within =
    let found = loop_at ls n within in
    let one : slice_get ls n ≡ Some found.0 = found.1 in
    let none : slice_get ls n ≡ None = ap (λ xs. slice_get xs n) (sym (append-nil ls)) ∙ later [] in
    cc
