use Rattle.std.proofs.Common.{◌≡◌, ◌+◌, ◌-◌, Some, length, drop, inl, inr, sym, subst, arith}
use Rattle.gh_base.proofs.ListLemmas.{over_or}
use Rattle.gh_ast.specs.declared.Program as whole
use Rattle.gh_ast.specs.Plain.{program_of}
use Rattle.gh_path.specs.Answers.{IsNumbered}
use Rattle.gh_path.specs.Conditions.{conditions}
use Rattle.gh_path.specs.Counted.{KeepsCounts}
use Rattle.gh_path.specs.Walks.{IsWalkBefore}
use Rattle.gh_path.proofs.GivenLemmas.{lent_one, lent_none}
use Rattle.gh_path.proofs.conditions.Conditions.condition.Goals as goal

pub returns-then-not-more : goal.returns-then-not-more
returns-then-not-more c =
    let P = program_of c.args.self.now in
    let s = c.self.inside in
    let k = c.args.number - 1 in
    let counted : KeepsCounts P s.count s.starts =
    subst (λ (proc : whole.Program). KeepsCounts (program_of proc) s.count s.starts) c.self.view_is
    c.self.invariant in
    let before : IsWalkBefore P c.in_ok-walk.walk (drop k (conditions P)) =
    c.in_ok-walk.ensures P (conditions P) counted.starts_are (sym counted.all) in
    elim (over_or k (length (conditions P))) [
      | inl less ↦ absurd (lent_none P c.in_ok-walk.walk c.advance.new.self k c.advance.result c.in_ok-more.more
          c.in_ok-more.was c.if-not-more.true before less c.advance.ensures.next)
      | inr past ↦ inr (omega (arith, past, c.if-number-eq0.false))
    ]

pub returns : goal.returns
returns c =
    let P = program_of c.args.self.now in
    let s = c.self.inside in
    let k = c.args.number - 1 in
    let counted : KeepsCounts P s.count s.starts =
    subst (λ (proc : whole.Program). KeepsCounts (program_of proc) s.count s.starts) c.self.view_is
    c.self.invariant in
    let before : IsWalkBefore P c.in_ok-walk.walk (drop k (conditions P)) =
    c.in_ok-walk.ensures P (conditions P) counted.starts_are (sym counted.all) in
    let number : k + 1 ≡ c.args.number = omega (arith, c.if-number-eq0.false) in
    subst (λ n. IsNumbered P n (Some c.take_condition.result)) number
    (lent_one P c.in_ok-walk.walk c.advance.new.self k c.advance.result c.in_ok-more.more c.take_condition.result
    c.in_ok-more.was c.if-not-more.false c.take_condition.ensures.value before c.advance.ensures.next)
