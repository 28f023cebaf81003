use Rattle.std.proofs.Common.{◌∙◌, ap, sym, ◌++◌, length, drop}
use Rattle.std.proofs.lemmas.Bool.Decides.{Decides-eqb}
use Rattle.std.proofs.lemmas.Slice.Eq.{starts_is}
use Rattle.gh_parse.proofs.lexer.is_sign_ahead.Goals as goal

pub returns : goal.returns
returns c =
    let text = c.args.text.now in
    let w = c.text.result.now in
    let same = c.text.ensures in
    let starts = starts_is Decides-eqb text w c.starts_with.result c.starts_with.ensures.value in (
      λ h. (drop (length w) text, starts.0 h ∙ ap (λ x. x ++ drop (length w) text) same),
      λ b. starts.1 b.0 (b.1 ∙ ap (λ x. x ++ b.0) (sym same)),
    )
