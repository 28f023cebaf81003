use Rattle.std.proofs.Common.{IsTrue}
use Rattle.gh_check.specs.Kept.{named}
use Rattle.gh_check.proofs.TruthLemmas.{shown_by}
use Rattle.gh_check.proofs.hints.Truths.are_shown.Goals as goal

pub returns-clause-exact : goal.returns-clause-exact
returns-clause-exact c =
    let fails : IsTrue c.in_ok-falsify.field-0 → ⊥ = λ t. let f = c.if-branch.false in absurd (cc) in
    shown_by (named c.args.kept.now c.args.hints.now) c.args.lits.now c.falsify.new.self.lits c.in_ok-walk_hints.field-0
    (c.in_ok-falsify.ensures.consistent fails) (c.in_ok-falsify.ensures.set fails) c.in_ok-walk_hints.ensures.exact
