use Rattle.std.proofs.Common.{◌≡◌, ◌∙◌, ◌-◌, ◌++◌, ◌≤◌, length, drop, ap, subst, arith}
use Rattle.std.proofs.lemmas.List.{length-drop, length-append}
use Rattle.gh_path.specs.Walks.{IsWalkBefore}
use Rattle.gh_path.proofs.LeftLemmas.{drop_after}
use Rattle.gh_path.proofs.walk.Walk.from_place.Goals as goal

pub returns-in_default : goal.returns-in_default
returns-in_default c = λ P cs are count.
    let past : length cs ≤ c.args.place = c.in_default.ensures.is P cs are in
    c.at_start.ensures.at P (drop c.args.place cs) (omega (arith, past, length-drop c.args.place cs))
    (λ less. absurd (omega (arith, less)))

pub returns : goal.returns
returns c = λ P cs are count.
    let place = c.args.place in
    let before = c.in-Some.sought.before in
    let found = c.in-Some.ensures.is P cs are in
    let after = found.2 in
    let long : length cs ≡ length (after.front ++ found.0) = ap length after.split in
    let left : length found.0 ≡ c.args.end - (place - before) =
    omega (arith, long, length-append after.front found.0, after.place, count) in
    let here : IsWalkBefore P c.at_start-walk.result found.0 =
    c.at_start-walk.ensures.at P found.0 left (λ less. found.1) in
    let gone : place - c.at_start-walk.result.given ≡ before =
    omega (arith, c.at_start-walk.ensures.given, after.place) in
    subst (IsWalkBefore P c.pass_to.new.self) (ap (λ n. drop n found.0) gone ∙ drop_after cs found.0 place before after)
    (c.in_ok-pass_to.ensures P found.0 here)
