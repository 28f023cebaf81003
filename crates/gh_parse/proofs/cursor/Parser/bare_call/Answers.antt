use Rattle.gh_parse.proofs.Rules.{by, told}
use Rattle.gh_parse.proofs.Exits.{exit}
use Rattle.gh_parse.proofs.StatementViews.{call_view}
use Rattle.gh_parse.proofs.CallForms.{make_bare, part_bare, bare_spelled}
use Rattle.gh_parse.proofs.cursor.Parser.bare_call.Goals as goal

pub returns-in_err-arguments : goal.returns-in_err-arguments
returns-in_err-arguments c =
    exit _ _ _ (λ s. by make_bare (told _ _ _ c.requires.2 part_bare) s) c.in_err-arguments.ensures
    c.from_residual.ensures.1

pub returns : goal.returns
returns c = rw (call_view, c.new.ensures.items) (bare_spelled c.in_ok-arguments.ensures)
