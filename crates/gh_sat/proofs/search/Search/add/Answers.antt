use Rattle.std.proofs.Common.{◌≡◌, ◌∙◌, ◌≤◌, ◌++◌, ◌∷◌, [], ℕ, arith, ap, sym, subst, length, take}
use Rattle.gh_sat.specs.Trail.{SearchState}
use Rattle.gh_sat.specs.Whole.{AddsClause}
use Rattle.gh_sat.specs.Theory.{IsBeside}
use Rattle.gh_sat.proofs.TheoryLemmas.{beside_cut, beside_undo, added_cut}
use Rattle.gh_sat.proofs.search.Search.add.Goals as goal

pub invariant_of-self : goal.invariant_of-self
invariant_of-self g c =
    subst (IsBeside g.T.Theory.valid (g.T.Theory.asserted c.self.inside.theory) (g.T.Theory.sizes c.self.inside.theory))
    (sym c.in_err-add.ensures.err) c.self.invariant

pub invariant_of-self-then-mark-length : goal.invariant_of-self-then-mark-length
invariant_of-self-then-mark-length g c =
    let s = c.self.inside.search in
    let a = g.T.Theory.asserted c.self.inside.theory in
    let added = added_cut s c.add.new.self c.args.clause c.in_ok-add.ensures.ok in
    let long : length c.steps.result.now ≡ length c.add.new.self.trail = ap length c.steps.ensures.steps in
    let le : length c.add.new.self.trail ≤ length a = omega (arith, c.mark.ensures, c.if-mark-length.true) in
    beside_undo g.T.Theory.valid a (g.T.Theory.asserted c.undo_to.new.self) (g.T.Theory.sizes c.self.inside.theory)
    (g.T.Theory.sizes c.undo_to.new.self) s c.add.new.self added.0 (s.clauses ++ c.args.clause ∷ [])
    c.self.invariant added.1 c.steps.ensures.sound le (c.undo_to.ensures.asserted ∙ ap (λ (n : ℕ). take n a) long)
    c.undo_to.ensures.sizes

pub invariant_of-self-else-mark-length : goal.invariant_of-self-else-mark-length
invariant_of-self-else-mark-length g c =
    let s = c.self.inside.search in
    let a = g.T.Theory.asserted c.self.inside.theory in
    let added = added_cut s c.add.new.self c.args.clause c.in_ok-add.ensures.ok in
    let long : length c.steps.result.now ≡ length c.add.new.self.trail = ap length c.steps.ensures.steps in
    let le : length a ≤ length c.add.new.self.trail = omega (arith, c.mark.ensures, c.if-mark-length.false) in
    beside_cut g.T.Theory.valid a (g.T.Theory.sizes c.self.inside.theory) s c.add.new.self added.0
    (s.clauses ++ c.args.clause ∷ []) c.self.invariant added.1 c.steps.ensures.sound le

pub returns-then-mark-length-clause-ok : goal.returns-then-mark-length-clause-ok
returns-then-mark-length-clause-ok g c =
    subst (λ (t : SearchState). AddsClause t c.args.clause c.add.new.self) c.self.view_is c.in_ok-add.ensures.ok

pub returns-else-mark-length-clause-ok : goal.returns-else-mark-length-clause-ok
returns-else-mark-length-clause-ok g c =
    subst (λ (t : SearchState). AddsClause t c.args.clause c.add.new.self) c.self.view_is c.in_ok-add.ensures.ok
