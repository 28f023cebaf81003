use Rattle.std.proofs.Common.{◌∷◌, [], codes, refl, sym}
use Rattle.gh_top.proofs.words.request_on_number.Goals as goal

pub returns : goal.returns
returns c =
    let number = c.in-Some.ensures.some c.in-Some.number refl in
    let file = sym (c.in_ok-new.ensures {u = tt}) in
    let second = number.2 in
    record { words_are = λ i. codes "smt" ∷ file i ∷ second i ∷ []; limits = (number.0, number.1) }
