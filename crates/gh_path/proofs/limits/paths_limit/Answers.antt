use Rattle.std.proofs.Common.{refl, arith, map, subst, length, ◌≡◌}
use Rattle.gh_ast.specs.Plain.{procedure_of}
use Rattle.gh_path.specs.Admitted.{HasManyPaths}
use Rattle.gh_path.proofs.PassedLemmas.{IsWide, paths_told, NoneBefore, first_limit, none_of}
use Rattle.gh_path.proofs.limits.paths_limit.Goals as goal

pub returns-then-ahead-gt-MOST_CONDITIONS : goal.returns-then-ahead-gt-MOST_CONDITIONS
returns-then-ahead-gt-MOST_CONDITIONS c = λ P.
    first_limit (HasManyPaths P) IsWide (paths_told P) c.args.procedures.now c.args.aheads.now c.requires
    c.loop-place.place c.index-procedures-place.result _ 4 _ _ (omega arith) c.loop-place.invariant
    c.if-ahead-gt-MOST_CONDITIONS.true refl refl refl

pub returns : goal.returns
returns c = λ P.
    let end : c.loop-place.place ≡ length c.args.aheads.now = omega arith in
    none_of (HasManyPaths P) IsWide (paths_told P) (map procedure_of c.args.procedures.now) c.args.aheads.now c.requires
    (subst (NoneBefore IsWide c.args.aheads.now) end c.loop-place.invariant)
