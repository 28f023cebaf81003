use Rattle.std.proofs.Common.{map, take}
use Rattle.gh_symb.specs.Phases.{both}
use Rattle.gh_symb.specs.Tables.{bound_by}
use Rattle.gh_symb.specs.Encodings.{Each}
use Rattle.gh_symb.specs.Fitting.{EncodesBinding}
use Rattle.gh_symb.proofs.bindings.all_bindings.Given as goal

abbrev pub invariant-loop-state : goal.invariant-loop-state
invariant-loop-state l =
    Each EncodesBinding l.bindings.items
    (map (λ es. both (bound_by es) (bound_by l.firsts)) (take l.state-index l.states))
