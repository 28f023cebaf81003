use Rattle.std.proofs.Common.{arith}
use Rattle.gh_types.proofs.FirstLemmas.{first_nil, first_next, first_whole, first_map}
use Rattle.gh_entail.specs.Checks.{UndeclaredErrors}
use Rattle.gh_entail.proofs.Faults.{unknown_at}
use Rattle.gh_entail.proofs.admit.first_undeclared.Goals as goal

pub loop-occurrence-init : goal.loop-occurrence-init
loop-occurrence-init c vs t = first_nil (λ b. UndeclaredErrors vs b.now)

pub loop-occurrence-preserved : goal.loop-occurrence-preserved
loop-occurrence-preserved c vs t =
    first_next (λ b. UndeclaredErrors vs b.now) c.args.occurrences.now c.loop-occurrence.occurrence-index
    c.occurrence-item.result _ _ _ (omega arith) c.occurrence-item.is c.earlier-first.ensures
    (c.loop-occurrence.invariant vs t)
    (unknown_at vs _ _ _ (c.has-is_known.ensures vs t) c.unless.ensures)

pub returns : goal.returns
returns c vs t =
    first_map (UndeclaredErrors vs) (λ b. b.now) c.args.occurrences.now _
    (first_whole (λ b. UndeclaredErrors vs b.now) c.args.occurrences.now c.loop-occurrence.occurrence-index _
    (omega arith) (c.loop-occurrence.invariant vs t))
