use Rattle.std.proofs.Common.{◌++◌, ◌∙◌, ap}
use Rattle.std.specs.Prelude.{codes}
use Rattle.std.specs.FinMap.{keys}
use Rattle.gh_log.specs.Texts.{numbers_text}
use Rattle.gh_lens.proofs.Assembling.{three}
use Rattle.gh_scene.specs.Rows.{exchange_note}
use Rattle.gh_scene.proofs.notes.exchange_note.Goals as goal

pub returns : goal.returns
returns c =
    let e = c.args.exchange.now in
    let old = c.new-text.result in
    three old (codes "handed over:" ++ numbers_text e.handed.items)
    (codes "; left aside:" ++ numbers_text (keys e.frame)) (codes "; came back:" ++ numbers_text (keys e.back))
    c.push_handed.new.text c.push_heap.new.text c.push_heap-2.new.text
    (c.in_ok-push_handed.ensures ∙ ap (λ ns. old ++ (codes "handed over:" ++ numbers_text ns)) c.as_slice.ensures.value)
    c.in_ok-push_heap.ensures c.in_ok-push_heap-2.ensures ∙ ap (λ t. t ++ exchange_note e) c.new-text.ensures
