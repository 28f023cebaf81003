use Rattle.std.proofs.Common.{◌++◌, ◌∷◌, [], ◌∙◌, ap, length}
use Rattle.std.specs.Prelude.{codes}
use Rattle.std.specs.Fmt.{decimal}
use Rattle.gh_lens.specs.Overviews.{of_rank, refuted_count}
use Rattle.gh_lens.proofs.Assembling.{counted}
use Rattle.gh_lens.proofs.overview.push_counts.Goals as goal

pub returns : goal.returns
returns c =
    let js = c.args.judged.now in
    counted c.args.text.now (decimal (length js)) (codes " conditions: ") (decimal (refuted_count js))
    (codes " refuted, ") (decimal (length (of_rank 2 js))) (codes " valid") (10 ∷ [])
    c.push_count.new.text c.push_count-2.new.text c.push_count-3.new.text c.push.new.self
    c.in_ok-push_count.ensures
    (c.in_ok-push_count-2.ensures
    ∙ ap (λ n. c.push_count.new.text ++ decimal n ++ codes " refuted, ") c.refuted_count.ensures)
    (c.in_ok-push_count-3.ensures
    ∙ ap (λ n. c.push_count-2.new.text ++ decimal n ++ codes " valid") c.count_rank.ensures)
    c.in_ok-push.ensures.ok
