use Rattle.gh_types.proofs.TableLemmas.{table_tells}
use Rattle.gh_types.proofs.names.Names.has.Goals as goal

pub returns : goal.returns
returns c =
    λ os h. rw (c.contains_key.ensures, c.bytes.ensures.text)
    (table_tells os c.args.occurrence.now.name c.args.self.now.places h)
