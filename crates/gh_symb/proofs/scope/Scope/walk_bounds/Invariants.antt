use Rattle.std.proofs.Common.{◌≡◌, ◌++◌, List, drop, map}
use Rattle.gh_ast.specs.Plain.{assertion_of}
use Rattle.gh_path.specs.Terms.{each_walked}
use Rattle.gh_symb.specs.Symbolic.{Under, each_under}
use Rattle.gh_symb.specs.Tables.{state}
use Rattle.gh_symb.specs.Encodings.{Each}
use Rattle.gh_symb.specs.Fitting.{EncodesUnder}
use Rattle.gh_symb.proofs.scope.Scope.walk_bounds.Given as goal

abbrev pub invariant-loop-alternative : goal.invariant-loop-alternative
invariant-loop-alternative l = record {
  walk : each_walked (map assertion_of (drop l.alternative-index l.alternatives)) (state l.kinds l.self l.version)
      ≡ each_walked (map assertion_of l.alternatives) (state l.initial.kinds l.initial.self l.version);
  encoded : (us : List Under) × Each EncodesUnder l.bounds.items us
      × (us ++ each_under (map assertion_of (drop l.alternative-index l.alternatives)) (state l.kinds l.self l.version)
      ≡ each_under (map assertion_of l.alternatives) (state l.initial.kinds l.initial.self l.version));
}
