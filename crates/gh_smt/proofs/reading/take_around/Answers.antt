use Rattle.std.proofs.Common.{arith}
use Rattle.gh_smt.proofs.DeclaredLemmas.{no_found, other_found, not_after}
use Rattle.gh_log.proofs.Exits.{exit}
use Rattle.gh_smt.proofs.reading.take_around.Goals as goal

pub returns-in_err-found : goal.returns-in_err-found
returns-in_err-found c =
    exit _ _ _ _ _ _ (no_found c.args.before.now c.args.after.now c.args.reader.now.rest.now c.skip.new.self.rest.now
    c.args.number (omega arith) c.requires c.if-not-skip.ensures) c.in_err-found.ensures c.from_residual.ensures.1

pub returns-then-found-number : goal.returns-then-found-number
returns-then-found-number c =
    other_found c.args.before.now c.args.after.now c.args.reader.now.rest.now c.skip.new.self.rest.now
    c.number.new.self.rest.now c.args.number c.in_ok-found.found (omega arith) c.requires c.if-not-skip.ensures
    c.in_ok-found.ensures c.if-found-number.true

pub returns-then-not-skip-2 : goal.returns-then-not-skip-2
returns-then-not-skip-2 c =
    not_after c.args.before.now c.args.after.now c.args.reader.now.rest.now c.skip.new.self.rest.now
    c.number.new.self.rest.now c.args.number c.in_ok-found.found (omega arith) c.requires c.if-not-skip.ensures
    c.in_ok-found.ensures c.if-not-skip-2.ensures.1
