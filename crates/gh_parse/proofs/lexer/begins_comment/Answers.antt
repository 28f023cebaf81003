use Rattle.std.proofs.Common.{drop, codes}
use Rattle.std.proofs.lemmas.Bool.Decides.{Decides-eqb}
use Rattle.std.proofs.lemmas.Slice.Eq.{starts_is}
use Rattle.gh_parse.proofs.lexer.begins_comment.Goals as goal

pub returns : goal.returns
returns c =
    let text = c.args.text.now in
    let starts = starts_is Decides-eqb text (codes "//") c.starts_with.result c.starts_with.ensures.value in
    (λ h. (drop 2 text, starts.0 h), λ b. starts.1 b.0 b.1)
