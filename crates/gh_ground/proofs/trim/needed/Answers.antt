use Rattle.std.proofs.Common.{◌≡◌, ◌+◌, ◌-◌, subst, arith}
use Rattle.gh_log.specs.Tables.{line_of}
use Rattle.gh_ground.specs.Trimming.{AreNeeded}
use Rattle.gh_ground.proofs.TrimLemmas.{needed_step, needed_whole}
use Rattle.gh_ground.proofs.trim.needed.Goals as goal

pub loop-place-preserved : goal.loop-place-preserved
loop-place-preserved c =
    let lines = c.args.lines.now in
    let old = c.loop-place.kept.items in
    let i = c.loop-place.invariant in
    let e = c.keep_hints.ensures in
    let l = line_of c.line.result in
    let at = c.line.ensures in
    let up : c.loop-place.place ≡ (c.loop-place.place - 1) + 1 = omega arith in
    record {
      within = omega arith;
      needed =
          needed_step lines old c.keep_hints.new.kept.items (c.loop-place.place - 1) l e.long e.keeps e.later e.hints
          e.only e.needed at (subst (AreNeeded lines old) up i.needed);
    }

pub returns : goal.returns
returns c =
    needed_whole c.args.lines.now c.loop-place.kept.items c.loop-place.place c.loop-place-test.false
    c.loop-place.invariant.needed
