use Rattle.std.proofs.Common.{◌≡◌, ◌<◌, ◌≤◌, ◌∙◌, ◌+◌, ℕ, List, All, ap, map, length, subst, sym, arith}
use Rattle.std.proofs.lemmas.List.{length_push}
use Rattle.gh_base.specs.declared.atom.Lit.{Lit}
use Rattle.gh_sat.specs.Learn.{add_clause}
use Rattle.gh_sat.specs.Trail.{SearchState, cut}
use Rattle.gh_sat.proofs.MeasureLemmas.{turn_learnt}
use Rattle.gh_log.specs.Lines as line
use Rattle.gh_ground.proofs.KeptLemmas.{IsHintedLine, keeps_learnt, keeps_then, are_numbers}
use Rattle.gh_ground.proofs.solver.Solver.learn.Goals as goal

pub backjump-requires : goal.backjump-requires
backjump-requires c =
    let l = c.in_ok-learnt.learnt in
    let same : length c.learn.new.self.starts ≡ length c.args.self.now.search.starts =
    ap (λ (t : SearchState). length t.starts) c.in_ok-learnt.ensures.added in
    omega (arith, c.in_ok-learnt.ensures.learnt.lower, same)

pub positions-requires : goal.positions-requires
positions-requires c =
    let old = c.args.self.now.search in
    let l = c.in_ok-learnt.learnt in
    let long : length c.learn.new.self.clauses ≡ length old.clauses + 1 =
    ap (λ (t : SearchState). length t.clauses) c.in_ok-learnt.ensures.added ∙ length_push old.clauses l.clause in
    subst (All (λ k. k < 4294967295)) (sym c.as_slice.ensures.value)
    (are_numbers (length old.clauses) l.reasons.items (omega (arith, long, c.in_ok-learnt.ensures.few))
    c.in_ok-learnt.ensures.reasons.within)

pub returns-clause-less : goal.returns-clause-less
returns-clause-less c =
    let l = c.in_ok-learnt.learnt in
    let p = c.in_ok-next.ensures in
    turn_learnt c.args.self.now.search c.learn.new.self c.backjump.new.self c.propagate.new.self.search c.args.conflict
    l.clause l.level l.unit c.requires.sound c.in_ok-learnt.ensures.learnt
    c.in_ok-learnt.ensures.added c.backjump.ensures p.moves.sizes p.last p.answered.sound

pub returns-clause-keeps : goal.returns-clause-keeps
returns-clause-keeps c =
    let old = c.args.self.now in
    let new = c.propagate.new.self in
    let mid = c.backjump.new.self in
    let lines = c.push.new.self in
    let l = c.in_ok-learnt.learnt in
    let reasons = l.reasons.items in
    let is = c.backjump.ensures ∙ ap (λ (t : SearchState). cut t l.level) c.in_ok-learnt.ensures.added in
    let hints = c.as_slice-2.result.now in
    let end = line.Hinted c.lits.result.now hints in
    let hinted : IsHintedLine l.clause (map (λ k. k + 1) reasons) end =
    ap (λ (x : List Lit). line.Hinted x hints) c.lits.ensures
    ∙ ap (λ (ks : List ℕ). line.Hinted l.clause ks)
    (c.as_slice-2.ensures.value ∙ c.in_ok-hints.ensures ∙ ap (map (λ k. k + 1)) c.as_slice.ensures.value) in
    keeps_then old.search mid new.search old.lines lines new.lines
    (keeps_learnt old.search mid old.lines lines c.args.conflict l.clause l.level l.unit l.level reasons end
    c.requires.sound c.in_ok-learnt.ensures.learnt c.in_ok-learnt.ensures.reasons is hinted
    c.in_ok-push.ensures.ok) c.in_ok-next.ensures.keeps
