-- What is still to run, as it is kept: the rests of blocks, the innermost last.
use Rattle.std.specs.Prelude.{◌<◌, List, [], ◌∷◌, ◌++◌, length, All}
use Rattle.std.proofs.Common.{Bor}
use Rattle.gh_ast.specs.declared.Stmt.{Stmt}

-- the statements in the order in which they run
abbrev pub laid_out : List (Bor (List Stmt)) → List Stmt
laid_out [] = []
laid_out (b ∷ bs) = laid_out bs ++ b.now

-- no block is empty, so the next statement stands in the last one
abbrev pub AreOpen : List (Bor (List Stmt)) → Type 0
AreOpen bs = All (λ b. 0 < length b.now) bs
