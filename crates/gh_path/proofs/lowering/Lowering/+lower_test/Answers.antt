use Rattle.std.proofs.Common.{◌≡◌, ◌∙◌, ◌+◌, ◌-◌, ap, arith}
use Rattle.std.proofs.lemmas.Result.{IfOk-weaker}
use Rattle.gh_ast.specs.Plain.{cond_of, conds_view, compare, conjunction, disjunction}
use Rattle.gh_ast.proofs.PlainLemmas.{test_of-Compare, test_of-And, test_of-Or}
use Rattle.gh_path.specs.Graphs.{reads, fork, tested, all_tested, some_tested}
use Rattle.gh_path.specs.Lowered.{AddsBefore, AddsChoice}
use Rattle.gh_path.proofs.ShownLemmas.{add_fork, then}
use Rattle.gh_path.proofs.LowerLemmas.{all_more, some_more, all_whole, some_whole, test_is}
use Rattle.gh_path.proofs.lowering.Lowering.+lower_test.Goals as goal

pub lower_all-loop-left-preserved : goal.lower_all-loop-left-preserved
lower_all-loop-left-preserved t c =
    let one : c.loop-left.left - 1 + 1 ≡ c.loop-left.left = omega arith in
    record {
      within = omega arith;
      grows = (
        omega (arith, c.loop-left.invariant.grows.0, c.in_ok-place.ensures.grows.0),
        c.in_ok-place.ensures.grows.1,
      );
      adds = λ g k first second.
          all_more c.args.nodes.now c.loop-left.nodes c.lower_test.new.nodes c.args.tests.now c.loop-left.left
          (c.loop-left.left - 1) c.index-tests-left.result c.loop-left.place c.in_ok-place.place c.args.no g k
          one (omega arith) c.index-tests-left.is second (c.loop-left.invariant.adds g k first second)
          c.in_ok-place.ensures.adds;
    }

pub lower_all-returns-clause-adds : goal.lower_all-returns-clause-adds
lower_all-returns-clause-adds t c = λ g k first second.
    let none : c.loop-left.left ≡ 0 = omega arith in
    all_whole c.args.nodes.now c.loop-left.nodes c.args.tests.now c.loop-left.left c.loop-left.place g k none
    (c.loop-left.invariant.adds g k first second)

pub lower_some-loop-left-preserved : goal.lower_some-loop-left-preserved
lower_some-loop-left-preserved t c =
    let one : c.loop-left.left - 1 + 1 ≡ c.loop-left.left = omega arith in
    record {
      within = omega arith;
      grows = (
        omega (arith, c.loop-left.invariant.grows.0, c.in_ok-place.ensures.grows.0),
        c.in_ok-place.ensures.grows.1,
      );
      adds = λ g k first second.
          some_more c.args.nodes.now c.loop-left.nodes c.lower_test.new.nodes c.args.tests.now c.loop-left.left
          (c.loop-left.left - 1) c.index-tests-left.result c.loop-left.place c.in_ok-place.place c.args.yes g k
          one (omega arith) c.index-tests-left.is first (c.loop-left.invariant.adds g k first second)
          c.in_ok-place.ensures.adds;
    }

pub lower_some-returns-clause-adds : goal.lower_some-returns-clause-adds
lower_some-returns-clause-adds t c = λ g k first second.
    let none : c.loop-left.left ≡ 0 = omega arith in
    some_whole c.args.nodes.now c.loop-left.nodes c.args.tests.now c.loop-left.left c.loop-left.place g k none
    (c.loop-left.invariant.adds g k first second)

pub lower_test-returns-in_ok-fork-in-Compare-clause-adds : goal.lower_test-returns-in_ok-fork-in-Compare-clause-adds
lower_test-returns-in_ok-fork-in-Compare-clause-adds t c =
    let ns = c.args.nodes.now in
    let before = c.add.new.self in
    let after = c.lower_sides.new.nodes in
    let at = c.in_ok-fork-in-Compare.fork in
    let l = c.in-Compare.left in
    let r = c.in-Compare.right in
    let e = c.in-Compare.equal in
    let is : cond_of c.args.test.now ≡ compare l e r = ap cond_of c.in-Compare.is ∙ test_of-Compare l e r in
    IfOk-weaker c.lower_sides.result (AddsBefore (λ g. reads l (reads r g)) before at after)
    (AddsChoice (tested (cond_of c.args.test.now)) ns c.args.yes c.args.no after)
    (λ i adds g k first second.
    let h = fork l e r g k in
    let one =
    add_fork ns before at c.args.yes c.args.no _ _ e g k c.in_ok-fork-in-Compare.ensures.added
    c.in_ok-fork-in-Compare.ensures.place first second in
    test_is ns after i (cond_of c.args.test.now) (compare l e r) g k is
    (then ns before after at i h (reads l (reads r h)) one (adds h one.shows)))
    c.lower_sides.ensures.adds

pub lower_test-returns-in-And-clause-adds : goal.lower_test-returns-in-And-clause-adds
lower_test-returns-in-And-clause-adds t c =
    let ns = c.args.nodes.now in
    let after = c.lower_all.new.nodes in
    let ts = c.in-And.members in
    let is : cond_of c.args.test.now ≡ conjunction (conds_view ts.items) = ap cond_of c.in-And.is ∙ test_of-And ts in
    IfOk-weaker c.lower_all.result
    (AddsChoice (all_tested (conds_view c.as_slice.result.now)) ns c.args.yes c.args.no after)
    (AddsChoice (tested (cond_of c.args.test.now)) ns c.args.yes c.args.no after)
    (λ i adds g k first second.
    test_is ns after i (cond_of c.args.test.now) (conjunction (conds_view ts.items)) g k is
    (rw c.as_slice.ensures.value at (adds g k first second)))
    c.lower_all.ensures.adds

pub lower_test-returns-in-Or-clause-adds : goal.lower_test-returns-in-Or-clause-adds
lower_test-returns-in-Or-clause-adds t c =
    let ns = c.args.nodes.now in
    let after = c.lower_some.new.nodes in
    let ts = c.in-Or.members in
    let is : cond_of c.args.test.now ≡ disjunction (conds_view ts.items) = ap cond_of c.in-Or.is ∙ test_of-Or ts in
    IfOk-weaker c.lower_some.result
    (AddsChoice (some_tested (conds_view c.as_slice-in-Or.result.now)) ns c.args.yes c.args.no after)
    (AddsChoice (tested (cond_of c.args.test.now)) ns c.args.yes c.args.no after)
    (λ i adds g k first second.
    test_is ns after i (cond_of c.args.test.now) (disjunction (conds_view ts.items)) g k is
    (rw c.as_slice-in-Or.ensures.value at (adds g k first second)))
    c.lower_some.ensures.adds
