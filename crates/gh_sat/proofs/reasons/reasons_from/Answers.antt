use Rattle.std.proofs.Common.{◌≡◌, ◌≤◌, ◌++◌, ◌∷◌, [], List, ℕ, length, arith, ap, sym, ◌∙◌}
use Rattle.gh_sat.proofs.WatchLemmas.{append_nil}
use Rattle.gh_sat.proofs.ReasonLemmas.{reasons_past}
use Rattle.gh_sat.proofs.reasons.reasons_from.Goals as goal

-- nothing is left at the end
at_end : (ks rest whole : List ℕ) → ks ++ rest ≡ whole → rest ≡ [] → ks ≡ whole
at_end ks rest whole h e = sym (append_nil ks) ∙ ap (λ (l : List ℕ). ks ++ l) (sym e) ∙ h

pub returns : goal.returns
returns c =
    let m = c.args.marks.now in
    let t = c.args.trail.now.steps in
    let past : length t ≤ c.loop-place.place =
    omega (arith, ap length c.steps-place-end.ensures.steps, c.loop-place-test.false) in
    let none = reasons_past m.round m.stamps.items t c.loop-place.place past in
    c.in_ok-push-2.ensures.items ∙ ap (λ (l : List ℕ). l ++ c.args.conflict ∷ [])
    (at_end _ _ _ c.loop-place.invariant none)
