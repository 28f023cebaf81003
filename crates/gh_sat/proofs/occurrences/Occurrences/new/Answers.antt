use Rattle.std.proofs.Common.{◌≡◌, ◌∙◌, ◌*◌, ap, get_or, ◌++◌, ◌∷◌, replicate, ℕ, List, []}
use Rattle.gh_sat.specs.Watch.{lists_by}
use Rattle.gh_sat.proofs.ListsLemmas.{by_none}
use Rattle.gh_sat.proofs.occurrences.Occurrences.new.Goals as goal

pub returns : goal.returns
returns c =
    let lists = c.push.new.self.items in
    let all : c.in_ok-numbers.numbers.items ≡ replicate (2 * c.args.atoms) 0 =
    c.in_ok-numbers.ensures.items_if_clones_equal (λ y h. h) in
    ap (lists_by lists) all ∙ by_none lists (2 * c.args.atoms)
    (ap (λ (ls : List (List ℕ)). get_or ls 0 [])
    (c.in_ok-push.ensures.items ∙ ap (λ (ls : List (List ℕ)). ls ++ c.new.result ∷ []) c.new-lists.ensures.items)
    ∙ c.new.ensures)
