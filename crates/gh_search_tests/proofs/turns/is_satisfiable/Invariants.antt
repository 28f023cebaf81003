use Rattle.std.specs.Prelude.{IfSome, IfNone}
use Rattle.gh_sat.specs.Learn.{IsConflictAt}
use Rattle.gh_sat.specs.Measure.{left}
use Rattle.gh_sat.specs.Status.{IsSettled}
use Rattle.gh_sat.specs.Theory.{HasNoConflict}
use Rattle.gh_sat.specs.Trail.{IsSound}
use Rattle.gh_search_tests.proofs.turns.is_satisfiable.Given as goal

abbrev pub invariant-loop-next : goal.invariant-loop-next
invariant-loop-next g l = record {
  sound : IsSound l.search;
  conflict : IfSome l.answer (λ k. IsConflictAt l.search k);
  settled : IfNone l.answer (IsSettled l.search);
  consistent : IfNone l.answer (HasNoConflict (g.T.Theory.valid l.search.sizes) l.search.trail);
}

abbrev pub decreases-loop-next : goal.decreases-loop-next
decreases-loop-next g l = left l.search.sizes l.search.trail
