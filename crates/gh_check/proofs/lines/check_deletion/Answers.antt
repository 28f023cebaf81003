use Rattle.std.proofs.Common.{refl}
use Rattle.gh_check.proofs.LineLemmas.{deletion_taken, deletion_refused, deletion_kept}
use Rattle.gh_check.proofs.lines.check_deletion.Goals as goal

pub returns-then-delete-clause-checked : goal.returns-then-delete-clause-checked
returns-then-delete-clause-checked c =
    λ p earlier h. deletion_taken p earlier c.args.kept.now c.args.positions.now h (c.if-delete.ensures.exact.0 refl)

pub returns-then-delete-clause-deleted : goal.returns-then-delete-clause-deleted
returns-then-delete-clause-deleted c =
    λ p earlier h. deletion_kept p earlier c.args.kept.now c.delete.new.self c.args.positions.now h
    (c.if-delete.ensures.deleted refl)

pub returns-else-delete-clause-checked : goal.returns-else-delete-clause-checked
returns-else-delete-clause-checked c =
    λ p earlier h. deletion_refused p earlier c.args.kept.now c.args.positions.now h
    (λ may. let f = c.if-delete.ensures.exact.1 may in absurd (cc))
