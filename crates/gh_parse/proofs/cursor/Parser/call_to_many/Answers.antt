use Rattle.std.proofs.Common.{refl}
use Rattle.gh_parse.specs.Stops.{any}
use Rattle.gh_parse.proofs.Rules.{by, told, first, next, after, ends_tok, ends_seq}
use Rattle.gh_parse.proofs.Exits.{exit, missing}
use Rattle.gh_parse.proofs.StatementViews.{call_view}
use Rattle.gh_parse.proofs.ValueForms.{a_name}
use Rattle.gh_parse.proofs.CallForms.{make_many, part_many, exact_targets_from, ends_arguments, call_spelled}
use Rattle.gh_parse.proofs.cursor.Parser.call_to_many.Goals as goal

pub returns-in_err-targets : goal.returns-in_err-targets
returns-in_err-targets c =
    exit _ _ _ (λ s. by make_many (told _ _ _ c.requires.2 part_many)
    (first (ends_seq (ends_tok a_name refl) ends_arguments) s)) c.in_err-targets.ensures c.from_residual.ensures.1

pub returns-in_err-callee : goal.returns-in_err-callee
returns-in_err-callee c =
    exit _ _ _ (λ s. by make_many (told _ _ _ c.requires.2 part_many)
    (next exact_targets_from (any c.in_ok-targets.ensures) (first ends_arguments s)))
    (missing _ _ _ _ _ a_name refl c.in_err-callee.ensures) c.from_residual-in_err-callee.ensures.1

pub returns-in_err-arguments : goal.returns-in_err-arguments
returns-in_err-arguments c =
    exit _ _ _ (λ s. by make_many (told _ _ _ c.requires.2 part_many)
    (next exact_targets_from (any c.in_ok-targets.ensures) (after _ c.in_ok-callee.ensures s)))
    c.in_err-arguments.ensures c.from_residual-in_err-arguments.ensures.1

pub returns : goal.returns
returns c = rw call_view (call_spelled c.in_ok-targets.ensures c.in_ok-callee.ensures c.in_ok-arguments.ensures)
