use Rattle.std.proofs.Common.{◌≡◌, map, take, length, arith, sym, ◌∙◌}
use Rattle.std.proofs.lemmas.List.{map-append, length-map}
use Rattle.gh_types.proofs.TableLemmas.{map_more, map_all, length_of_front}
use Rattle.gh_types.proofs.names.names_of.Goals as goal

pub loop-place-preserved : goal.loop-place-preserved
loop-place-preserved c =
    let front = map (λ o. o.now) (take c.loop-place.place c.args.occurrences.now) in
    let size : c.loop-place.place ≡ length (map (λ o. o.name) front) =
    length_of_front (λ o. o.now) c.args.occurrences.now c.loop-place.place (omega arith)
    ∙ sym (length-map front (λ o. o.name)) in
    rw (
      map_more (λ o. o.now) c.args.occurrences.now c.loop-place.place c.index-occurrences-place.result (omega arith)
          c.index-occurrences-place.is,
      map-append,
      ← c.bytes.ensures.text,
    )
    (c.in_ok-add.ensures.names _ size c.loop-place.invariant)

pub returns : goal.returns
returns c = rw (← map_all (λ o. o.now) c.args.occurrences.now c.loop-place.place (omega arith)) c.loop-place.invariant
