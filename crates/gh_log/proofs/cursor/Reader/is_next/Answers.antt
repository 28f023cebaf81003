use Rattle.std.proofs.Common.{length, drop}
use Rattle.std.proofs.lemmas.Bool.Decides.{Decides-eqb}
use Rattle.std.proofs.lemmas.Slice.Eq.{starts_is}
use Rattle.gh_log.proofs.FrontLemmas.{next_from}
use Rattle.gh_log.proofs.cursor.Reader.is_next.Goals as goal

pub returns : goal.returns
returns c =
    let text = c.args.self.now.rest.now in let wanted = c.args.wanted.now in
    let starts = starts_is Decides-eqb text wanted c.starts_with.result c.starts_with.ensures.value in
    next_from c.starts_with.result wanted text (drop (length wanted) text) starts.0 starts.1
