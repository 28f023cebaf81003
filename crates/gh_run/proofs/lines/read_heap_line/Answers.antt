use Rattle.std.proofs.Common.{codes}
use Rattle.gh_draw.proofs.Reader.{word_missing}
use Rattle.gh_run.proofs.LineLemmas.{no_heap_word}
use Rattle.gh_run.proofs.lines.read_heap_line.Goals as goal

pub returns-then-is_none : goal.returns-then-is_none
returns-then-is_none c =
    no_heap_word c.args.cursor.now.text.now c.take.new.self.text.now c.take.new.self.text.now
    (word_missing (codes "heap") c.args.cursor.now.text.now c.take.new.self.text.now c.take.result c.take.ensures.read
    c.if-is_none.ensures)
