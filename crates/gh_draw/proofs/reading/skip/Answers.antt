use Rattle.std.proofs.Common.{◌≡◌, ◌∙◌, sym, subst, codes}
use Rattle.gh_draw.proofs.Reader.{word_missing, missing_stays}
use Rattle.gh_draw.proofs.Skipping.{SameFile, skip_turn, skip_none}
use Rattle.gh_draw.proofs.reading.skip.Goals as goal

pub returns-then-not-line : goal.returns-then-not-line
returns-then-not-line c =
    let stays =
    missing_stays (c.take.new.self.text.now ≡ c.lines.cursor.text.now) c.take.result c.lines-test.ensures
    c.take.ensures.stays in
    skip_none c.take.new.self.text.now c.args.cursor.now.text.now c.if-not-line.ensures.line
    (subst (λ z. SameFile z c.args.cursor.now.text.now) (sym stays) c.lines.invariant)

pub lines-preserved : goal.lines-preserved
lines-preserved c =
    let stays =
    missing_stays (c.take.new.self.text.now ≡ c.lines.cursor.text.now) c.take.result c.lines-test.ensures
    c.take.ensures.stays in
    let none =
    word_missing (codes "drawing\n") c.lines.cursor.text.now c.take.new.self.text.now c.take.result
    c.take.ensures.read c.lines-test.ensures in
    let l = c.if-not-line.ensures.line in
    skip_turn c.take.new.self.text.now c.args.cursor.now.text.now l.0 c.line.new.self.text.now
    (λ r e. none tt r (sym stays ∙ e)) l.1 l.2
    (subst (λ z. SameFile z c.args.cursor.now.text.now) (sym stays) c.lines.invariant)
