use Rattle.std.specs.Prelude.{◌+◌, List, [], ◌∷◌, ◌++◌, drop}
use Rattle.std.proofs.Common.{ℕ, sym, ◌∙◌, ap, append_assoc}
use Rattle.gh_picture.specs.Spots.{numbers}
use Rattle.gh_picture.proofs.OrderLemmas.{next_number}
use Rattle.gh_picture.proofs.layout.push_numbers.Goals as goal

pub loop-number-preserved : goal.loop-number-preserved
loop-number-preserved c =
    let k = c.loop-number.number in
    let cells = c.args.cells.now in
    let old = c.loop-number.order.items in
    let rest = numbers (k + 1) (drop (k + 1) cells) in
    ap (λ (ns : List ℕ). ns ++ rest) c.in_ok-push.ensures.items ∙ append_assoc old (k ∷ []) rest
    ∙ ap (λ (ns : List ℕ). old ++ ns) (sym (next_number cells k c.loop-number-test.true)) ∙ c.loop-number.invariant
