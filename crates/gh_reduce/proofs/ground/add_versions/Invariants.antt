use Rattle.std.proofs.Common.{◌≡◌, map}
use Rattle.gh_symb.specs.Formulas.{versions_formulas}
use Rattle.gh_symb.specs.Encodings.{plain_kind}
use Rattle.gh_reduce.specs.Growth.{stated_in}
use Rattle.gh_reduce.proofs.ground.add_versions.Given as goal

abbrev pub invariant-loop-version : goal.invariant-loop-version
invariant-loop-version l = l.ground ≡ stated_in l.initial.ground (versions_formulas (map plain_kind l.terms) l.version)
