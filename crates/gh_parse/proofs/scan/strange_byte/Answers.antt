use Rattle.std.proofs.Common.{◌≡◌, ℕ, ◌<◌, Some, None, false, length, rules, tests, arith, sym, ◌∙◌, ap, subst, inl}
use Rattle.std.proofs.Common.{MatchOption, List}
use Rattle.std.specs.List.{AllWithin, HoldsAt}
use Rattle.std.proofs.lemmas.Iterator.{IsFirst-from_position}
use Rattle.std.proofs.lemmas.Iterator.Consumers.{YieldsList-from_first}
use Rattle.gh_ast.specs.Tokens.{cleared, IsFirstByte}
use Rattle.gh_ast.proofs.Clearing.{length-cleared}
use Rattle.gh_parse.specs.Scanning.{cleared_from}
use Rattle.gh_parse.specs.declared.scan.Cleared.{Cleared}
use Rattle.gh_parse.proofs.Scanning.{IsStrange, IsKnown, strange_found}
use Rattle.gh_parse.proofs.scan.strange_byte.Goals as goal

abbrev left : Cleared → List ℕ
left s = cleared_from s.in_comment s.rest.now

whole : (s : Cleared) (text : List ℕ) → s.rest.now ≡ text → s.in_comment ≡ false → left s ≡ cleared text
whole s text r o = ap (λ b. cleared_from b s.rest.now) o ∙ ap cleared r

pub position-requires-clause-fits : goal.position-requires-clause-fits
position-requires-clause-fits c =
    let text = c.args.text.now in
    let n : length (left c.new.result) ≡ length text =
    ap length (whole c.new.result text c.new.ensures.rest c.new.ensures.outside) ∙ length-cleared text in
    inl (omega arith)

pub returns-in_err-at : goal.returns-in_err-at
returns-in_err-at c =
    let text = c.args.text.now in
    subst (λ r. MatchOption r ((k : ℕ) → IsFirstByte text k → ⊥) (λ k. IsFirstByte text k))
    (sym c.from_residual.ensures)
    (strange_found text None
    (IsFirst-from_position c.position.new.self _ None IsStrange IsKnown c.in_err-at.ensures.ran
    (YieldsList-from_first (λ x. x) left (cleared text)
    (whole c.new.result text c.new.ensures.rest c.new.ensures.outside))
    (λ b q k. search (rules, tests)) (λ b q k. search (rules, tests))))

found : (c : goal.In_ok-at)
    → (c.in_ok-at.at < length (cleared c.args.text.now)) × HoldsAt IsStrange (cleared c.args.text.now) c.in_ok-at.at
    × AllWithin IsKnown (cleared c.args.text.now) 0 c.in_ok-at.at
found c =
    let text = c.args.text.now in
    IsFirst-from_position c.position.new.self _ (Some c.in_ok-at.at) IsStrange IsKnown c.in_ok-at.ensures.ran
    (YieldsList-from_first (λ x. x) left (cleared text)
    (whole c.new.result text c.new.ensures.rest c.new.ensures.outside))
    (λ b q k. search (rules, tests)) (λ b q k. search (rules, tests))

pub overflow_cast-result : goal.overflow_cast-result
overflow_cast-result c = let lt = (found c).0 in let n = length-cleared c.args.text.now in omega arith

pub returns : goal.returns
returns c = strange_found c.args.text.now (Some c.in_ok-at.at) (found c)
