use Rattle.std.proofs.Common.{◌∙◌, ◌++◌, ◌∷◌, ap, arith}
use Rattle.std.specs.Fmt.{decimal}
use Rattle.gh_log.proofs.LineLemmas.{header_parts, header_read, other_header, header_goes_on}
use Rattle.gh_log.proofs.Exits.{exit}
use Rattle.gh_log.proofs.cursor.Reader.header.Goals as goal

pub returns-in_err-expect : goal.returns-in_err-expect
returns-in_err-expect c =
    exit _ _ _ _ _ _ (λ h u rest e. h u (decimal c.args.number ++ 10 ∷ rest)
    (header_parts c.args.self.now.rest.now c.args.number rest e)) c.in_err-expect.ensures c.from_residual.ensures.1

pub returns-then-branch-number : goal.returns-then-branch-number
returns-then-branch-number c =
    other_header c.args.self.now.rest.now c.expect.new.self.rest.now c.number.new.self.rest.now c.in_ok-number.field-0
    c.args.number c.in_ok-expect.ensures c.in_ok-number.ensures (omega arith)
    c.if-branch-number.true

pub returns-then-not-take : goal.returns-then-not-take
returns-then-not-take c =
    header_goes_on c.args.self.now.rest.now c.expect.new.self.rest.now c.number.new.self.rest.now c.in_ok-number.field-0
    c.args.number c.in_ok-expect.ensures c.in_ok-number.ensures (omega arith)
    c.if-not-take.ensures.1

pub returns : goal.returns
returns c =
    header_read c.args.self.now.rest.now c.expect.new.self.rest.now c.take.new.self.rest.now c.args.number
    c.in_ok-expect.ensures
    (c.in_ok-number.ensures.front ∙ ap (λ k. decimal k ++ c.number.new.self.rest.now) c.if-branch-number.false
    ∙ ap (λ t. decimal c.args.number ++ t) c.if-not-take.ensures)
