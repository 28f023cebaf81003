use Rattle.std.proofs.Common.{◌∙◌, ◌++◌, sym, ap, append_assoc, take}
use Rattle.std.specs.List.{flat_map}
use Rattle.gh_log.specs.Texts.{line_text}
use Rattle.gh_log.specs.Tables.{line_of}
use Rattle.gh_log.proofs.TableLemmas.{text_more}
use Rattle.gh_log.proofs.writing.put_section.Goals as goal

pub loop-place-preserved : goal.loop-place-preserved
loop-place-preserved c =
    let lines = c.args.section.now.lines in
    let start = c.put-2.new.out in
    let before = flat_map line_text (take c.loop-place.place lines) in
    let text = line_text (line_of c.line.result) in
    record {
      same = c.in_ok-put_line.ensures.same ∙ ap (λ t. t ++ text) c.loop-place.invariant.same
          ∙ append_assoc start before text
          ∙ ap (λ t. start ++ t) (sym
          (text_more line_text lines c.loop-place.place (line_of c.line.result) c.line.ensures));
    }
