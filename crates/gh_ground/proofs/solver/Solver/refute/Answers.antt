use Rattle.std.proofs.Common.{◌≡◌, ◌+◌, ◌<◌, ◌∙◌, [], ℕ, List, All, subst, sym, length, map, ap, refl, arith}
use Rattle.std.proofs.lemmas.List.{length_push}
use Rattle.gh_log.specs.Lines as line
use Rattle.gh_ground.proofs.KeptLemmas.{IsHintedLine, refutation_of, are_numbers, lines_long}
use Rattle.gh_ground.proofs.solver.Solver.refute.Goals as goal

pub returns : goal.returns
returns c =
    let reasons = c.in_ok-reasons.reasons.items in
    let end = line.Hinted [] c.as_slice-2.result.now in
    let hints = c.as_slice-2.ensures.value ∙ c.in_ok-hints.ensures ∙ ap (map (λ k. k + 1)) c.as_slice.ensures.value in
    let hinted : IsHintedLine [] (map (λ k. k + 1) reasons) end = ap (λ (ks : List ℕ). line.Hinted [] ks) hints in
    let long : length c.push.new.self ≡ length c.args.self.now.lines + 1 =
    ap length c.in_ok-push.ensures.ok ∙ length_push c.args.self.now.lines end in
    λ p kept. refutation_of p c.args.self.now.search c.args.self.now.lines c.push.new.self reasons end _
    c.in_ok-reasons.ensures.reasons kept hinted c.in_ok-push.ensures.ok refl refl
    (omega (
      arith,
      long,
      lines_long p c.args.self.now.search c.args.self.now.lines kept,
      c.count-count.ensures.count,
      c.count-count.ensures.few,
    ))

pub positions-requires : goal.positions-requires
positions-requires c =
    subst (All (λ k. k < 4294967295)) (sym c.as_slice.ensures.value)
    (are_numbers (length c.args.self.now.search.clauses) c.in_ok-reasons.reasons.items
    (omega (arith, c.count-count.ensures.count, c.count-count.ensures.few)) c.in_ok-reasons.ensures.reasons.within)
