use Rattle.std.proofs.Common.{◌≡◌, ◌<◌, Some, length, refl}
use Rattle.std.specs.Prelude.{slice_get}
use Rattle.std.proofs.lemmas.Option.{slice_get_read}
use Rattle.gh_cc.proofs.SignatureLemmas.{table_is}
use Rattle.gh_cc.proofs.signatures.SignatureTable.get.Goals as goal

pub returns : goal.returns
returns c =
    let s = c.self.inside in
    let within : c.args.number < length s.table.items = rw (← c.self.view_is) at c.requires in
    let at : slice_get s.table.items c.args.number ≡ Some c.index.result.now =
    slice_get_read s.table.items (length s.table.items) c.args.number c.index.result.now refl within c.index.ensures in
    rw (← c.self.view_is)
    (table_is s.table.items s.entries.items _ c.args.number c.index.result.now c.self.invariant at)
