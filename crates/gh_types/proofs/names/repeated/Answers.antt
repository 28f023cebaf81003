use Rattle.std.proofs.Common.{◌≡◌, ◌++◌, [], ◌∷◌, map, take, length, arith, sym, ◌∙◌, ◌+◌}
use Rattle.std.proofs.lemmas.List.{map-append, length-map}
use Rattle.gh_types.specs.Tables.{place_in}
use Rattle.gh_types.proofs.TableLemmas.{finds, map_more, map_all, length_of_front, repeat_step}
use Rattle.gh_types.proofs.names.repeated.Goals as goal

pub loop-place-preserved : goal.loop-place-preserved
loop-place-preserved c =
    let front = map (λ o. o.now) (take c.loop-place.place c.args.occurrences.now) in
    let here = c.index-occurrences-place.result.now in
    let more : map (λ o. o.now) (take (c.loop-place.place + 1) c.args.occurrences.now) ≡ front ++ here ∷ [] =
    map_more (λ o. o.now) c.args.occurrences.now c.loop-place.place c.index-occurrences-place.result (omega arith)
    c.index-occurrences-place.is in
    let size : c.loop-place.place ≡ length (map (λ o. o.name) front) =
    length_of_front (λ o. o.now) c.args.occurrences.now c.loop-place.place (omega arith)
    ∙ sym (length-map front (λ o. o.name)) in
    record {
      table =
          rw (more, map-append, ← c.bytes.ensures.text)
          (c.in_ok-is_new.ensures.names _ size c.loop-place.invariant.table);
      first = rw more (
          repeat_step c.args.number front here (place_in c.loop-place.names.places here.name) c.in_ok-is_new.is_new _ _
          _
          (finds _ _ c.loop-place.invariant.table here.name)
          (rw (← c.bytes.ensures.text) c.in_ok-is_new.ensures.added)
          c.earlier-first.ensures c.loop-place.invariant.first c.unless.ensures
          );
    }

pub returns : goal.returns
returns c =
    rw (← map_all (λ o. o.now) c.args.occurrences.now c.loop-place.place (omega arith)) c.loop-place.invariant.first
