use Rattle.std.proofs.Common.{◌≡◌, ◌∙◌, ◌≤◌, ℕ, arith, ap, length, take}
use Rattle.gh_sat.proofs.TheoryLemmas.{beside_cut, beside_undo}
use Rattle.gh_sat.proofs.search.Search.backjump.Goals as goal

pub invariant_of-self : goal.invariant_of-self
invariant_of-self g c =
    let a = g.T.Theory.asserted c.self.inside.theory in
    let long : length c.steps.result.now ≡ length c.backjump.new.self.trail = ap length c.steps.ensures.steps in
    let le : length c.backjump.new.self.trail ≤ length a = omega (arith, c.mark.ensures, c.if-mark-length.true) in
    beside_undo g.T.Theory.valid a (g.T.Theory.asserted c.undo_to.new.self) (g.T.Theory.sizes c.self.inside.theory)
    (g.T.Theory.sizes c.undo_to.new.self) c.self.inside.search c.backjump.new.self c.args.level
    c.self.inside.search.clauses
    c.self.invariant c.backjump.ensures c.steps.ensures.sound le
    (c.undo_to.ensures.asserted ∙ ap (λ (n : ℕ). take n a) long) c.undo_to.ensures.sizes

pub invariant_of-self-else-mark-length : goal.invariant_of-self-else-mark-length
invariant_of-self-else-mark-length g c =
    let a = g.T.Theory.asserted c.self.inside.theory in
    let long : length c.steps.result.now ≡ length c.backjump.new.self.trail = ap length c.steps.ensures.steps in
    let le : length a ≤ length c.backjump.new.self.trail = omega (arith, c.mark.ensures, c.if-mark-length.false) in
    beside_cut g.T.Theory.valid a (g.T.Theory.sizes c.self.inside.theory) c.self.inside.search c.backjump.new.self
    c.args.level c.self.inside.search.clauses c.self.invariant c.backjump.ensures c.steps.ensures.sound le
