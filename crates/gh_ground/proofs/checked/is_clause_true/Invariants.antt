use Rattle.std.proofs.Common.{All, take}
use Rattle.gh_base.specs.Meaning.{IsLitTrue}
use Rattle.gh_base.specs.Structures.{interpretation_of}
use Rattle.gh_ground.proofs.checked.is_clause_true.Given as goal

abbrev pub invariant-loop-lit : goal.invariant-loop-lit
invariant-loop-lit l = All (λ k. ¬ IsLitTrue (interpretation_of l.structure) k) (take l.lit-index l.clause)
