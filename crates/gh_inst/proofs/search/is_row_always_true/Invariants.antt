use Rattle.std.proofs.Common.{All, take}
use Rattle.gh_base.specs.Meaning.{IsLitTrue}
use Rattle.gh_base.specs.Structures.{interpretation_of}
use Rattle.gh_inst.specs.Schemas.{lit_over}
use Rattle.gh_inst.specs.Search.{IsAmong}
use Rattle.gh_inst.proofs.search.is_row_always_true.Given as goal

abbrev pub invariant-loop-pattern : goal.invariant-loop-pattern
invariant-loop-pattern l =
    All (λ p. IsAmong l.first p
    → ¬ IsLitTrue (interpretation_of l.structure) (lit_over l.version (take l.first l.tuple) p))
    (take l.pattern-index l.lits)
