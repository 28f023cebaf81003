use Rattle.std.proofs.Common.{None, Some, subst}
use Rattle.std.proofs.lemmas.List.{nil_from_length}
use Rattle.gh_ast.specs.Plain.{program_of}
use Rattle.gh_path.specs.Kept.{condition_of}
use Rattle.gh_lens.specs.Stories.{IsStoryOr}
use Rattle.gh_lens.proofs.Telling.{told_whole, told_by_a_story, not_empty, has_procedure}
use Rattle.gh_lens.proofs.story.told_of.Goals as goal

pub unreachable-requires : goal.unreachable-requires
unreachable-requires c =
    has_procedure (program_of c.args.typed.now) c.args.condition.now c.requires.scoped c.in_default.ensures.none

pub unreachable-requires-in_default-split_first : goal.unreachable-requires-in_default-split_first
unreachable-requires-in_default-split_first c =
    not_empty (program_of c.args.typed.now) (condition_of c.args.condition.now) c.args.states.now c.requires.shown
    (nil_from_length c.args.states.now c.in_default-split_first.ensures.cases)

pub unreachable-requires-in-None : goal.unreachable-requires-in-None
unreachable-requires-in-None c =
    let P = program_of c.args.typed.now in
    let r = c.args.condition.now in
    let x = c.in-Some-split_first.first.now in
    let ys = c.in-Some-split_first.others.now in
    let none : IsStoryOr P r x ys None = subst (IsStoryOr P r x ys) c.in-None.is c.in_ok-text.ensures in
    told_by_a_story P r c.args.states.now ys x c.in-Some-split_first.ensures.cases.0 c.requires.shown none

pub returns : goal.returns
returns c =
    let P = program_of c.args.typed.now in
    let r = c.args.condition.now in
    let x = c.in-Some-split_first.first.now in
    let ys = c.in-Some-split_first.others.now in
    let told : IsStoryOr P r x ys (Some c.in-Some-2.text) =
    subst (IsStoryOr P r x ys) c.in-Some-2.is c.in_ok-text.ensures in
    told_whole P r c.args.states.now ys x c.in-Some-2.text c.in-Some-split_first.ensures.cases.0 c.requires.shown told
