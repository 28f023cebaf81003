use Rattle.std.proofs.Common.{◌∙◌, ◌++◌, sym, ap, refl, length}
use Rattle.std.proofs.lemmas.Bool.{both_ways}
use Rattle.std.proofs.lemmas.Bool.Decides.{Decides-eqb}
use Rattle.std.proofs.lemmas.Slice.Eq.{starts_is}
use Rattle.gh_base.proofs.Appending.{rest_of}
use Rattle.gh_log.proofs.cursor.Reader.skip.Goals as goal

pub returns-then-not-starts_with : goal.returns-then-not-starts_with
returns-then-not-starts_with c =
    let starts =
    starts_is Decides-eqb c.args.self.now.rest.now c.args.wanted.now c.starts_with.result
    c.starts_with.ensures.value in
    (refl, λ rest e. both_ways c.starts_with.result c.if-not-starts_with.true (starts.1 rest e))

pub returns : goal.returns
returns c =
    let text = c.args.self.now.rest.now in let wanted = c.args.wanted.now in
    let starts = starts_is Decides-eqb text wanted c.starts_with.result c.starts_with.ensures.value in
    starts.0 c.if-not-starts_with.false ∙ ap (λ t. wanted ++ t) (sym (rest_of (length wanted) text))
