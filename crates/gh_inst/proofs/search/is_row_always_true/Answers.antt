use Rattle.std.proofs.Common.{◌++◌, arith, subst, take_all, All, take}
use Rattle.std.proofs.lemmas.List.Elements.{All-more}
use Rattle.gh_base.specs.Meaning.{IsLitTrue}
use Rattle.gh_base.specs.Structures.{interpretation_of}
use Rattle.gh_inst.specs.Schemas.{lit_over}
use Rattle.gh_inst.specs.Search.{IsAmong}
use Rattle.gh_inst.proofs.SearchLemmas.{true_at, none_true, got}
use Rattle.gh_inst.proofs.search.is_row_always_true.Goals as goal

pub returns-then-is_always_true-clause-always : goal.returns-then-is_always_true-clause-always
returns-then-is_always_true-clause-always c = λ holds rest.
    let a = c.args in
    true_at (interpretation_of a.structure.now) a.version (take a.first a.tuple.now ++ rest) a.lits.now
    c.loop-pattern.pattern-index _
    (got a.lits.now c.loop-pattern.pattern-index _ (omega arith))
    (c.is_always_true.ensures.always c.if-is_always_true.true rest)

pub loop-pattern-preserved : goal.loop-pattern-preserved
loop-pattern-preserved c =
    let a = c.args in
    let m = interpretation_of a.structure.now in
    All-more (λ p. IsAmong a.first p → ¬ IsLitTrue m (lit_over a.version (take a.first a.tuple.now) p)) a.lits.now
    c.loop-pattern.pattern-index _ (omega arith) c.loop-pattern.invariant
    (c.is_always_true.ensures.open (λ h. absurd cc))

pub returns-clause-open : goal.returns-clause-open
returns-clause-open c = λ fails among.
    let a = c.args in
    let m = interpretation_of a.structure.now in
    let all =
    subst (All (λ p. IsAmong a.first p → ¬ IsLitTrue m (lit_over a.version (take a.first a.tuple.now) p)))
    (take_all c.loop-pattern.pattern-index a.lits.now (omega arith)) c.loop-pattern.invariant in
    none_true m a.version a.first (take a.first a.tuple.now) a.lits.now all among
