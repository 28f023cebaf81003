-- The structure of a search's trail.
use Rattle.std.specs.Prelude.{All}
use Rattle.gh_base.specs.Meaning.{Interpretation, IsClauseTrue}
use Rattle.gh_cc.specs.Asserted.{IsConsistent}
use Rattle.gh_cc.specs.Partials.{IsStructureOf}
use Rattle.gh_sat.specs.Status.{AreSatisfied}
use Rattle.gh_sat.specs.Theory.{lits_of}
use Rattle.gh_sat.specs.Trail.{SearchState, IsSound}

-- it makes the clauses true, where each has a literal that is true on the trail, and the trail is consistent
abbrev pub AreClausesTrue : Type 0
AreClausesTrue =
    (s : SearchState) (m : Interpretation) → IsStructureOf s.sizes (lits_of s.trail) m → IsSound s
    → IsConsistent s.sizes (lits_of s.trail) → AreSatisfied s → All (IsClauseTrue m) s.clauses
