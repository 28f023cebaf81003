use Rattle.std.proofs.Common.{◌++◌, ◌∙◌, ap}
use Rattle.std.specs.Prelude.{codes}
use Rattle.std.specs.FinMap.{keys}
use Rattle.gh_draw.specs.Drawings.{line}
use Rattle.gh_log.specs.Texts.{numbers_text}
use Rattle.gh_lens.proofs.Assembling.{three}
use Rattle.gh_lens.proofs.lines.push_exchange.Goals as goal

pub returns : goal.returns
returns c =
    let old = c.args.text.now in
    let e = c.args.exchange.now in
    three old (line (codes "  handed over:" ++ numbers_text e.handed.items))
    (line (codes "  left aside:" ++ numbers_text (keys e.frame)))
    (line (codes "  came back:" ++ numbers_text (keys e.back)))
    c.push_numbers_line.new.text c.push_heap_line.new.text c.push_heap_line-2.new.text
    (c.in_ok-push_numbers_line.ensures
    ∙ ap (λ ns. old ++ line (codes "  handed over:" ++ numbers_text ns)) c.as_slice.ensures.value)
    c.in_ok-push_heap_line.ensures c.in_ok-push_heap_line-2.ensures
