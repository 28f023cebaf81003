use Rattle.std.proofs.Common.{◌≡◌, ◌+◌, Some, length, refl, arith, length-set}
use Rattle.std.specs.Prelude.{slice_get}
use Rattle.std.proofs.lemmas.Option.{slice_get_read}
use Rattle.gh_cc.specs.declared.uses.Mention.{Mention}
use Rattle.gh_cc.proofs.UseLemmas.{uses_push_none, uses_push_some}
use Rattle.gh_cc.proofs.CountLemmas.{counts_push_none, counts_push_some, count_small}
use Rattle.gh_cc.proofs.uses.Uses.push.Goals as goal

pub invariant_of-self : goal.invariant_of-self
invariant_of-self c =
    let s = c.self.inside in
    let m : Mention = record { term = c.args.term; before = 0 } in
    rw c.push_reserved.ensures.items (
      uses_push_none s.mentions.items s.last.items m c.self.invariant.0 c.in-None.is,
      counts_push_none s.mentions.items s.counts.items m _ c.self.invariant.1 c.in-None.is,
    )

pub overflow_add-index_mut : goal.overflow_add-index_mut
overflow_add-index_mut c =
    let s = c.self.inside in
    let range = rw c.in-Some.is at c.requires.range in
    let inside = rw (← c.self.view_is) at range in
    let small = rw (← c.self.view_is) at c.requires.small in
    let k = c.index_mut-in-Some.result.now in
    let counts = c.self.invariant.1 in
    let at : slice_get s.counts.items c.in-Some.named.0 ≡ Some k =
    slice_get_read s.counts.items (length s.counts.items) c.in-Some.named.0 k refl
    (omega (arith, counts.long, inside)) c.index_mut-in-Some.ensures.value in
    omega (arith, small, count_small s.mentions.items s.counts.items c.in-Some.named.0 _ k counts at)

pub invariant_of-self-in-Some : goal.invariant_of-self-in-Some
invariant_of-self-in-Some c =
    let s = c.self.inside in
    let range = rw c.in-Some.is at c.requires.range in
    let inside = rw (← c.self.view_is) at range in
    let n = c.index-before.result.now in
    let k = c.index_mut-in-Some.result.now in
    let counts = c.self.invariant.1 in
    let m : Mention = record { term = Some c.in-Some.named; before = n } in
    let at : slice_get s.last.items c.in-Some.named.0 ≡ Some n =
    slice_get_read s.last.items (length s.last.items) c.in-Some.named.0 n refl inside c.index-before.ensures in
    let count : slice_get s.counts.items c.in-Some.named.0 ≡ Some k =
    slice_get_read s.counts.items (length s.counts.items) c.in-Some.named.0 k refl
    (omega (arith, counts.long, inside)) c.index_mut-in-Some.ensures.value in
    let place : c.len-place.result ≡ length s.mentions.items = omega arith in
    let long = length-set s.last.items c.in-Some.named.0 (length s.mentions.items + 1) in
    rw (c.push_reserved-in-Some.ensures.items, place, long) (
      uses_push_some s.mentions.items s.last.items c.in-Some.named n c.self.invariant.0 at,
      counts_push_some s.mentions.items s.counts.items m c.in-Some.named _ k counts refl count,
    )
