use Rattle.std.proofs.Common.{Some, None}
use Rattle.std.proofs.lemmas.Bool.Decides.{Decides-eqb}
use Rattle.std.proofs.lemmas.Slice.Eq.{strip_prefix_is}
use Rattle.gh_draw.proofs.cursor.Cursor.take.Goals as goal

pub returns-in_err-self-clause-read : goal.returns-in_err-self-clause-read
returns-in_err-self-clause-read c =
    rw c.from_residual.ensures
    (λ u rest e. strip_prefix_is Decides-eqb c.args.self.now.text.now c.args.word.now None c.in_err-self.ensures.cases
    rest e)

pub returns-clause-read : goal.returns-clause-read
returns-clause-read c =
    strip_prefix_is Decides-eqb c.args.self.now.text.now c.args.word.now (Some c.in_ok-self.field-0)
    c.in_ok-self.ensures.cases
