use Rattle.std.proofs.Common.{◌≡◌, ◌≤◌, ◌∷◌, subst, take, drop, length}
use Rattle.std.proofs.lemmas.List.{take_rest}
use Rattle.gh_session.specs.Lines.{lines}
use Rattle.gh_session.proofs.Cutting.{cut_more}
use Rattle.gh_session.proofs.lines.first_part.Goals as goal

pub loop-end-preserved : goal.loop-end-preserved
loop-end-preserved c =
    let e = c.line_end-end.ensures in
    let n = c.line_end-end.result in
    let rest = take_rest c.args.text.now c.loop-end.end in
    cut_more c.args.text.now c.loop-end.end c.loop-end.lines n c.loop-end.invariant c.loop-end-test.true
    c.if-text-end-ne37.true e.some (subst (λ xs. n ≤ length xs) rest e.within)
    (subst (λ xs. lines xs ≡ take n xs ∷ lines (drop n xs)) rest e.first)
