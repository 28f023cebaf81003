use Rattle.std.proofs.Common.{◌≡◌, ◌∙◌, sym, ap, map, rules}
use Rattle.std.specs.Prelude.{position}
use Rattle.std.proofs.lemmas.List.{length-map}
use Rattle.gh_path.specs.Terms.{same_kind, next, place}
use Rattle.gh_symb.specs.Tables.{kind_of}
use Rattle.gh_symb.proofs.TableLemmas.{position_map}
use Rattle.gh_symb.proofs.kinds.Kinds.next.Goals as goal

pub returns : goal.returns
returns c =
    let items = c.self.inside.kinds.items in
    let k = next c.args.version c.args.of in
    let found : c.next_place.result ≡ position (same_kind k) (map kind_of items) =
    (rw (c.as_slice.ensures.value) at c.next_place.ensures) ∙ sym (position_map (same_kind k) kind_of items) in
    let plain : c.unwrap_or.result ≡ place k (map kind_of items) =
    rw (sym found, length-map items kind_of) (search rules) in
    plain ∙ ap (place k) c.self.view_is
