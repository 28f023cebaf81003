use Rattle.gh_smt.proofs.Adding.{three}
use Rattle.gh_smt.proofs.writing.put_version.Goals as goal

pub returns : goal.returns
returns c = three _ _ _ _ _ _ _ c.in_ok-put_around.ensures c.in_ok-put_around-2.ensures c.in_ok-put_around-3.ensures
