use Rattle.std.proofs.Common.{◌∷◌, [], codes, refl, sym}
use Rattle.gh_top.proofs.words.request_on_steps.Goals as goal

pub returns : goal.returns
returns c =
    let number = c.in-Some.ensures.some c.in-Some.number refl in
    let file = sym (c.in_ok-new.ensures {u = tt}) in
    let state = sym (c.in_ok-new-2.ensures {u = tt}) in
    let third = number.2 in
    record { words_are = λ i. codes "run" ∷ file i ∷ state i ∷ third i ∷ []; limits = (number.0, number.1) }
