use Rattle.std.proofs.Common.{◌≡◌, ◌≤◌, ◌∙◌, ◌+◌, ◌++◌, [], ap, sym, append-nil, arith, min, length, drop}
use Rattle.std.proofs.Math.ListN.{drop_of_length-le}
use Rattle.gh_path.proofs.LowerLemmas.{each_more, sum_next, numbers_next}
use Rattle.gh_path.proofs.SuitLemmas.{suit_first, suit_next}
use Rattle.gh_ast.specs.Plain.{statement_of, statements_view}
use Rattle.gh_path.specs.Graphs.{all_loops}
use Rattle.gh_path.specs.Lowered.{Suits, first_loops}
use Rattle.gh_path.proofs.lower_body.first_loops.Goals as goal

pub loop-statement-preserved : goal.loop-statement-preserved
loop-statement-preserved c =
    let ss = c.args.statements.now in
    let i = c.loop-statement.statement-index in
    let x = c.statement-item.result in
    let n = c.loop-statement.number in
    let m = c.saturating_add-number.result in
    let t = c.args.first + length (all_loops (statements_view ss)) in
    let sum =
    c.saturating_add-number.ensures
    ∙ ap (λ k. min (c.loop-statement.number + k) 4294967295) c.count_loops.ensures in
    record {
      long = omega (arith, c.in_ok-push.ensures.len, c.loop-statement.invariant.long);
      suits_next =
          λ w all. suit_next w n m ss i x c.loop-statement-test.true c.statement-item.is sum
          (c.loop-statement.invariant.suits_next w all);
      suit = λ w all.
          each_more (λ n d. Suits w n (statement_of d)) ss c.loop-statement.numbers.items c.push.new.self.items i n x
          c.loop-statement-test.true c.statement-item.is
          (omega (arith, c.loop-statement.numbers.ok, c.loop-statement.invariant.long)) c.in_ok-push.ensures.items
          (suit_first w n ss i x c.loop-statement-test.true c.statement-item.is
          (c.loop-statement.invariant.suits_next w all)) (c.loop-statement.invariant.suit w all);
      sum = λ room. sum_next n m t ss i x c.loop-statement-test.true c.statement-item.is sum room
          (c.loop-statement.invariant.sum room);
      are = λ room.
          numbers_next n m t ss i x c.loop-statement.numbers.items c.push.new.self.items (first_loops c.args.first ss)
          c.loop-statement-test.true c.statement-item.is sum
          room (c.loop-statement.invariant.sum room) c.in_ok-push.ensures.items (c.loop-statement.invariant.are room);
    }

pub returns-clause-numbered : goal.returns-clause-numbered
returns-clause-numbered c = λ room.
    let ss = c.args.statements.now in
    let i = c.loop-statement.statement-index in
    let n = c.loop-statement.number in
    let ns = c.loop-statement.numbers.items in
    let past : length ss ≤ i = omega arith in
    let none : drop i ss ≡ [] = drop_of_length-le ss past in
    sym (append-nil ns) ∙ ap (λ ds. ns ++ first_loops n ds) (sym none) ∙ c.loop-statement.invariant.are room

pub returns-clause-suit : goal.returns-clause-suit
returns-clause-suit c = λ w all k d less. c.loop-statement.invariant.suit w all k d (omega arith)
