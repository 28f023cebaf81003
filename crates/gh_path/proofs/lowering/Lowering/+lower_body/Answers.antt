use Rattle.std.proofs.Common.{◌≡◌, ◌∙◌, ◌+◌, ◌-◌, ◌<◌, ◌++◌, ◌≤◌, length, get_or, min, refl, ap, subst, arith}
use Rattle.std.proofs.lemmas.List.{length-append}
use Rattle.std.proofs.lemmas.Result.{IfOk-weaker}
use Rattle.gh_ast.specs.Plain.{program_of, block_of, cond_of, statement_of, statements_view, if, return, Statement}
use Rattle.gh_ast.proofs.PlainLemmas.{statement_of-While, statement_of-Return}
use Rattle.gh_path.specs.Graphs.{loops, all_loops, lowered, all_lowered, tested}
use Rattle.gh_path.specs.Lowered.{first_loops, Grows, AddsChoice, AddsEnd, AddsPass, AddsStatement}
use Rattle.gh_path.specs.Shown.{AddsNodes}
use Rattle.gh_path.proofs.NumberLemmas.{choice_at}
use Rattle.gh_path.proofs.ShownLemmas.{then, still}
use Rattle.gh_path.proofs.LowerLemmas.{block_more, block_whole, statement_is, loops_from, loops_at, first_loop}
use Rattle.gh_path.proofs.lowering.Lowering.+lower_body.Goals as goal

pub lower_block-number_at-number-requires-clause-each : goal.lower_block-number_at-number-requires-clause-each
lower_block-number_at-number-requires-clause-each t c = λ k d less.
    rw c.as_slice.ensures.value (c.in_ok-numbers.ensures.suit c.args.self.now c.requires.suits k d less)

pub lower_block-loop-left-preserved : goal.lower_block-loop-left-preserved
lower_block-loop-left-preserved t c =
    let P = program_of c.args.self.now.program.now in
    let ss = c.args.statements.now in
    let i = c.loop-left.left - 1 in
    let x = c.index-statements-left.result in
    let k = c.number_at-number.result in
    let all = c.args.first + length (all_loops (statements_view ss)) in
    let one : i + 1 ≡ c.loop-left.left = omega arith in
    let within : i < length ss = omega arith in
    let numbers : c.in_ok-numbers.numbers.items ≡ first_loops c.args.first ss =
    c.in_ok-numbers.ensures.numbered c.requires.suits.room in
    let at : k ≡ get_or c.in_ok-numbers.numbers.items i 0 =
    rw c.as_slice.ensures.value at c.number_at-number.ensures.is in
    let number : k ≡ get_or (first_loops c.args.first ss) i 0 = at ∙ ap (λ ns. get_or ns i 0) numbers in
    let here : k + loops_from i ss ≡ all = ap (λ m. m + loops_from i ss) number ∙ first_loop c.args.first ss i within in
    let long : loops_from i ss ≡ length (loops (statement_of x)) + loops_from c.loop-left.left ss =
    loops_at ss c.loop-left.left i x one within c.index-statements-left.is in
    record {
      within = omega arith;
      grows = (
        omega (arith, c.loop-left.invariant.grows.0, c.in_ok-place.ensures.grows.0),
        c.in_ok-place.ensures.grows.1,
      );
      adds = λ n g sum shows.
          let m = n + length (loops (statement_of x)) in
          let later : m + loops_from c.loop-left.left ss ≡ all = omega (arith, sum, long) in
          let same : k ≡ n = omega (arith, sum, here) in
          block_more P c.args.nodes.now c.loop-left.nodes c.lower_statement.new.nodes ss c.loop-left.left i x n m
          c.loop-left.place c.in_ok-place.place g one within c.index-statements-left.is refl
          (c.loop-left.invariant.adds m g later shows)
          (λ h on. subst (λ j. AddsNodes c.loop-left.nodes c.lower_statement.new.nodes c.in_ok-place.place
          (lowered P j (statement_of x) h)) same (c.in_ok-place.ensures.adds h on));
    }

pub lower_block-returns-clause-adds : goal.lower_block-returns-clause-adds
lower_block-returns-clause-adds t c = λ g shows.
    let ss = c.args.statements.now in
    let n = c.args.first in
    let none : c.loop-left.left ≡ 0 = omega arith in
    let sum : n + loops_from c.loop-left.left ss ≡ n + length (all_loops (statements_view ss)) =
    ap (λ k. n + loops_from k ss) none in
    block_whole (program_of c.args.self.now.program.now) c.args.nodes.now c.loop-left.nodes ss n c.loop-left.left
    c.loop-left.place g none (c.loop-left.invariant.adds n g sum shows)

pub lower_statement-returns-in_ok-no-in-If-clause-grows : goal.lower_statement-returns-in_ok-no-in-If-clause-grows
lower_statement-returns-in_ok-no-in-If-clause-grows t c =
    IfOk-weaker c.lower_test.result (Grows c.lower_block-in-If.new.nodes c.lower_test.new.nodes)
    (Grows c.args.nodes.now c.lower_test.new.nodes)
    (λ i grows. (omega (arith, grows.0, c.in_ok-yes-in-If.ensures.grows.0, c.in_ok-no-in-If.ensures.grows.0), grows.1))
    c.lower_test.ensures.grows

pub lower_statement-returns-in_ok-no-in-If-clause-adds : goal.lower_statement-returns-in_ok-no-in-If-clause-adds
lower_statement-returns-in_ok-no-in-If-clause-adds t c =
    let P = program_of c.args.self.now.program.now in
    let ns = c.args.nodes.now in
    let n = c.args.first in
    let a = statements_view c.as_slice-taken.result.now in
    let b = statements_view c.as_slice-otherwise.result.now in
    let x = cond_of c.in-If.test in
    let n1 = c.lower_block.new.nodes in
    let n2 = c.lower_block-in-If.new.nodes in
    let n3 = c.lower_test.new.nodes in
    let yes = c.in_ok-yes-in-If.yes in
    let no = c.in_ok-no-in-If.no in
    let s : Statement = if x a (block_of c.in-If.taken).close b (block_of c.in-If.otherwise).close in
    let is : statement_of c.args.statement.now ≡ s =
    choice_at c.args.statement.now c.in-If.test c.in-If.taken c.in-If.otherwise c.as_slice-taken.result.now
    c.as_slice-otherwise.result.now c.in-If.is c.as_slice-taken.ensures.value c.as_slice-otherwise.ensures.value in
    let room : n + length (all_loops a ++ all_loops b) ≤ 65536 =
    subst (λ d. n + length (loops d) ≤ 65536) is c.requires.suits.room in
    let m = n + length (all_loops a) in
    let sum : c.saturating_add-later.result ≡ min (n + min (length (all_loops a)) 4294967295) 4294967295 =
    c.saturating_add-later.ensures ∙ ap (λ k. min (n + k) 4294967295) c.count_all_loops.ensures in
    let later : c.saturating_add-later.result ≡ m =
    omega (arith, sum, room, length-append (all_loops a) (all_loops b)) in
    IfOk-weaker c.lower_test.result (AddsChoice (tested x) n2 yes no n3)
    (AddsStatement c.args.self.now c.args.statement.now n ns c.args.next n3)
    (λ i adds g shows.
    let g1 = all_lowered P n a g in
    let g2 = all_lowered P m b g in
    let one : AddsNodes ns n1 yes g1 = c.in_ok-yes-in-If.ensures.adds g shows in
    let other : AddsNodes n1 n2 no (all_lowered P c.saturating_add-later.result b g) =
    c.in_ok-no-in-If.ensures.adds g (still ns n1 yes c.args.next g1 g one shows) in
    let two : AddsNodes n1 n2 no g2 = subst (λ k. AddsNodes n1 n2 no (all_lowered P k b g)) later other in
    let three = adds g1 g2 (still n1 n2 no yes g2 g1 two one.shows) two.shows in
    let both = then ns n1 n2 yes no g1 g2 one two in
    statement_is P n ns n3 i (statement_of c.args.statement.now) s g is
    (then ns n2 n3 no i g2 (tested x g1 g2) both three))
    c.lower_test.ensures.adds

pub lower_statement-returns-in-While-clause-adds : goal.lower_statement-returns-in-While-clause-adds
lower_statement-returns-in-While-clause-adds t c =
    let P = program_of c.args.self.now.program.now in
    let ns = c.args.nodes.now in
    let after = c.lower_pass.new.nodes in
    let is =
    ap statement_of c.in-While.is
    ∙ statement_of-While c.in-While.span c.in-While.test c.in-While.invariant c.in-While.body in
    IfOk-weaker c.lower_pass.result (AddsPass c.in-While.span c.in-While.test c.args.first ns c.args.next after)
    (AddsStatement c.args.self.now c.args.statement.now c.args.first ns c.args.next after)
    (λ i adds g shows. statement_is P c.args.first ns after i (statement_of c.args.statement.now) _ g is (adds g shows))
    c.lower_pass.ensures.adds

pub lower_statement-returns-in-Return-clause-adds : goal.lower_statement-returns-in-Return-clause-adds
lower_statement-returns-in-Return-clause-adds t c =
    let P = program_of c.args.self.now.program.now in
    let ns = c.args.nodes.now in
    let after = c.lower_give.new.nodes in
    let xs = c.as_slice-in-Return.result.now in
    let is = ap statement_of c.in-Return.is ∙ statement_of-Return c.in-Return.span c.in-Return.values in
    IfOk-weaker c.lower_give.result (AddsEnd c.args.self.now (return c.in-Return.span xs) ns after)
    (AddsStatement c.args.self.now c.args.statement.now c.args.first ns c.args.next after)
    (λ i adds g shows.
    statement_is P c.args.first ns after i (statement_of c.args.statement.now) _ g is
    (rw c.as_slice-in-Return.ensures.value at (adds g)))
    c.lower_give.ensures.adds
