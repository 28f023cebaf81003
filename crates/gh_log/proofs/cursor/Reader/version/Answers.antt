use Rattle.gh_log.proofs.LineLemmas.{no_version_text, no_version_zero, version_goes_on}
use Rattle.gh_log.proofs.Exits.{exit}
use Rattle.gh_log.proofs.cursor.Reader.version.Goals as goal

pub returns-in_err-expect : goal.returns-in_err-expect
returns-in_err-expect c =
    exit _ _ _ _ _ _ (no_version_text c.args.self.now.rest.now) c.in_err-expect.ensures c.from_residual.ensures.1

pub returns-then-version-eq0 : goal.returns-then-version-eq0
returns-then-version-eq0 c =
    no_version_zero c.args.self.now.rest.now c.expect.new.self.rest.now c.number.new.self.rest.now
    c.in_ok-version.version c.in_ok-expect.ensures c.in_ok-version.ensures c.if-version-eq0.true

pub returns-then-not-take : goal.returns-then-not-take
returns-then-not-take c =
    version_goes_on c.args.self.now.rest.now c.expect.new.self.rest.now c.number.new.self.rest.now
    c.in_ok-version.version c.in_ok-expect.ensures c.in_ok-version.ensures c.if-not-take.ensures.1
